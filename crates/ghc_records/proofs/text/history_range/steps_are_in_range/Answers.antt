use Rattle.ghc_records.proofs.Words.{◌≡◌, ◌+◌, ◌<◌, ◌++◌, ◌∷◌, [], ℕ, List, All, get_or, length, take, sym, ◌∙◌, ap, subst, take_more, All-push, Step, IsInRange}
use Rattle.ghc_records.proofs.text.history_range.steps_are_in_range.Goals as goal

one_more : (steps : List Step) (i : ℕ) (s : Step) → i < length steps → s ≡ get_or steps i s → All IsInRange (take i steps) → IsInRange s → All IsInRange (take (i + 1) steps)
one_more steps i s low is all this =
    subst (All IsInRange) (sym (take_more steps i s low ∙ ap (λ t. take i steps ++ t ∷ []) (sym is))) (All-push IsInRange (take i steps) s all this)

pub loop-step-preserved : goal.loop-step-preserved
loop-step-preserved c = one_more c.args.steps.now c.loop-step.step-index c.step-item.result c.loop-step-test.true c.step-item.is c.loop-step.invariant c.step_is_in_range.ensures
