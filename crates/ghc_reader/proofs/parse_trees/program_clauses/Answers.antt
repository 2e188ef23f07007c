use Rattle.ghc_reader.proofs.Words.{arith, a_program}
use Rattle.ghc_reader.proofs.MisplacedWithin.{misplaced_in_tokens}
use Rattle.ghc_reader.proofs.OneReading.{parse_refusal}
use Rattle.ghc_reader.proofs.parse_trees.program_clauses.Goals as goal

pub returns-in-Err-clause-fault : goal.returns-in-Err-clause-fault
returns-in-Err-clause-fault c text shallow =
    parse_refusal a_program text _ _ _ shallow c.deref-in-Err.ensures.value c.in-Err.error (rw c.deref.ensures.value at c.in-Err.ensures.fault) c.fault_of.result c.fault_of.ensures.memory c.fault_of.ensures.syntax

pub overflow_sub-len : goal.overflow_sub-len
overflow_sub-len c =
    let within = misplaced_in_tokens c.args.lexed.now.tokens.items _ c.in-Some.left (rw c.deref.ensures.value at c.in-Ok.ensures.found) (rw c.deref-2.ensures.value at c.in-Some.ensures) in
    omega (arith, within, c.len.ensures, c.args.lexed.now.tokens.ok.0)
