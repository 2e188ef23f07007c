use Rattle.ghc_reader.proofs.Words.{arith, err_from_is_err_and, a_query}
use Rattle.ghc_reader.proofs.MisplacedWithin.{misplaced_in_query_tokens}
use Rattle.ghc_reader.proofs.OneReading.{parse_refusal, token_refusal}
use Rattle.ghc_reader.proofs.parse_trees.parsed_query.Goals as goal

pub returns-in_err-lexed-clause-fault : goal.returns-in_err-lexed-clause-fault
returns-in_err-lexed-clause-fault c =
    let passed = err_from_is_err_and c.from_residual.result c.from_residual.ensures.1 in
    rw (passed.1, passed.2) (token_refusal a_query c.args.text.now _ c.in_err-lexed.ensures.fault)

pub returns-in-Err-clause-fault : goal.returns-in-Err-clause-fault
returns-in-Err-clause-fault c =
    parse_refusal a_query c.args.text.now _ _ _ c.in_ok-lexed.ensures.found c.deref-in-Err.ensures.value c.in-Err.error (rw c.deref.ensures.value at c.in-Err.ensures.fault) c.fault_of.result c.fault_of.ensures.memory c.fault_of.ensures.syntax

pub overflow_sub-len : goal.overflow_sub-len
overflow_sub-len c =
    let within = misplaced_in_query_tokens c.in_ok-lexed.lexed.tokens.items _ c.in-Some.left (rw c.deref.ensures.value at c.in-Ok.ensures.found) (rw c.deref-2.ensures.value at c.in-Some.ensures) in
    omega (arith, within, c.len.ensures, c.in_ok-lexed.lexed.tokens.ok.0)
