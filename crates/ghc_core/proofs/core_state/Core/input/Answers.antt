use Rattle.ghc_core.proofs.Words.{◌≡◌, ap, sym, ◌∙◌, Ok, Err, to_give, does, stepped}
use Rattle.ghc_core.proofs.core_state.Core.input.Goals as goal

pub returns-clause-answer : goal.returns-clause-answer
returns-clause-answer c =
    let taken = c.in_ok-take_next.ensures.ok in
    let found = c.in-Ok.ensures.answer.0 in
    (does (to_give found.0) found.1 taken.1 (ap stepped (taken.0 ∙ sym found.1.0)), tt)

pub returns-in-Err-clause-anyway : goal.returns-in-Err-clause-anyway
returns-in-Err-clause-anyway c f fails = let same : Err c.in-Err.fault ≡ Err f = c.in-Err.ensures.anyway f fails in cc

pub returns-in_err-take_next-clause-anyway : goal.returns-in_err-take_next-clause-anyway
returns-in_err-take_next-clause-anyway c f fails = let no : Ok c.in-Ok.addition ≡ Err f = c.in-Ok.ensures.anyway f fails in cc

pub returns-clause-anyway : goal.returns-clause-anyway
returns-clause-anyway c f fails = let no : Ok c.in-Ok.addition ≡ Err f = c.in-Ok.ensures.anyway f fails in cc
