use Rattle.ghc_reader.proofs.TermFounds.{passes}
use Rattle.ghc_reader.proofs.InputFaults.{term_in_whole, behind_whole, whole_found}
use Rattle.ghc_reader.proofs.Whole.{is_nothing, not_nothing}
use Rattle.ghc_reader.proofs.input_parser.whole_term.Goals as goal

pub returns-in_err-term-clause-fault : goal.returns-in_err-term-clause-fault
returns-in_err-term-clause-fault c =
    passes c.from_residual.result c.in_err-term.field-0.0 _ _ c.from_residual.ensures.1 (term_in_whole c.args.tokens.now) c.in_err-term.ensures.fault

pub returns-else-is_empty-clause-fault : goal.returns-else-is_empty-clause-fault
returns-else-is_empty-clause-fault c = behind_whole c.args.tokens.now c.in_ok-term.rest.now _ c.in_ok-term.ensures.found (not_nothing c.in_ok-term.rest.now c.if-is_empty.ensures)

pub returns-then-is_empty-clause-found : goal.returns-then-is_empty-clause-found
returns-then-is_empty-clause-found c = whole_found c.args.tokens.now c.in_ok-term.rest.now _ c.in_ok-term.ensures.found (is_nothing c.in_ok-term.rest.now c.if-is_empty.ensures)
