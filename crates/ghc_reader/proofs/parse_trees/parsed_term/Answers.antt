use Rattle.ghc_reader.proofs.Words.{sym, inr, view, err_from_is_err_and, a_term}
use Rattle.ghc_reader.proofs.OneReading.{parse_refusal, token_refusal, term_limit_refusal, term_read}
use Rattle.ghc_reader.proofs.parse_trees.parsed_term.Goals as goal

pub returns-in_err-lexed-clause-fault : goal.returns-in_err-lexed-clause-fault
returns-in_err-lexed-clause-fault c =
    let passed = err_from_is_err_and c.from_residual.result c.from_residual.ensures.1 in
    rw (passed.1, passed.2) (token_refusal a_term c.args.text.now _ c.in_err-lexed.ensures.fault)

pub returns-in-Err-clause-fault : goal.returns-in-Err-clause-fault
returns-in-Err-clause-fault c =
    parse_refusal a_term c.args.text.now _ _ _ c.in_ok-lexed.ensures.found c.deref-in-Err.ensures.value c.in-Err.error (rw c.deref.ensures.value at c.in-Err.ensures.fault) c.fault_of.result c.fault_of.ensures.memory c.fault_of.ensures.syntax

pub returns-in-Some-clause-fault : goal.returns-in-Some-clause-fault
returns-in-Some-clause-fault c = inr (term_limit_refusal c.args.text.now _ _ (view c.in-Ok.term) c.in_ok-lexed.ensures.found (rw c.deref.ensures.value at c.in-Ok.ensures.found) c.in-Some.limit (sym c.in-Some.ensures))

pub returns-clause-found : goal.returns-clause-found
returns-clause-found c = term_read c.args.text.now _ _ (view c.in-Ok.term) c.in_ok-lexed.ensures.found (rw c.deref.ensures.value at c.in-Ok.ensures.found) (sym c.in_default.ensures)
