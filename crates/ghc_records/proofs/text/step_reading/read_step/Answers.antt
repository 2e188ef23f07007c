use Rattle.ghc_records.proofs.Words.{◌≡◌, ◌∷◌, ◌++◌, IfOk, IfNone, decimal, sym, ap, ◌∙◌, subst, Step, SaysStep}
use Rattle.ghc_records.proofs.Saying.{line_apart, no_blank}
use Rattle.ghc_records.proofs.text.step_reading.read_step.Goals as goal

pub returns-in_default-clause-none : goal.returns-in_default-clause-none
returns-in_default-clause-none c = no_blank c.args.line.now c.in_default.ensures.none

pub returns-in-Some-positive-clause-none : goal.returns-in-Some-positive-clause-none
returns-in-Some-positive-clause-none c =
    let same : decimal c.in-Some-positive.step ++ 32 ∷ c.in-Some.rest.now ≡ c.args.line.now = sym (c.in-Some.ensures.found ∙ ap (λ l. l ++ 32 ∷ c.in-Some.rest.now) c.in-Some-positive.ensures.some) in
    subst (λ l. IfOk c.step_behind.result (λ found. IfNone found ((s : Step) → ¬ SaysStep l s))) same c.step_behind.ensures.none

pub returns-in-None-clause-none : goal.returns-in-None-clause-none
returns-in-None-clause-none c = λ s says.
    c.in-None.ensures.none s.number says.number.0 says.number.1 (line_apart c.args.line.now c.in-Some.word.now c.in-Some.rest.now s c.in-Some.ensures.found c.in-Some.ensures.plain says).0
