use Rattle.ghc_core.proofs.Words.{refl, subst, take_all, each_next, in_place, CanBeAskedFor, CanBeAsked, false≢true}
use Rattle.ghc_term.proofs.ListsLemmas.{not_both}
use Rattle.ghc_core.proofs.saved.asked_again.can_all_be_asked_for.Goals as goal

pub returns-then-not-can_be_asked_for : goal.returns-then-not-can_be_asked_for
returns-then-not-can_be_asked_for c =
    let there = in_place c.args.goals.now c.loop-goal.goal-index c.goal-item.result c.loop-goal-test.true c.goal-item.is in
    (λ no. absurd (false≢true no), λ all. absurd (not_both _ c.if-not-can_be_asked_for.true (c.can_be_asked_for.ensures.1 (all _ there))))

pub loop-goal-preserved : goal.loop-goal-preserved
loop-goal-preserved c =
    each_next (CanBeAskedFor c.args.program.now) c.args.goals.now c.loop-goal.goal-index c.goal-item.result c.loop-goal-test.true c.loop-goal.invariant
    (subst (CanBeAskedFor c.args.program.now) c.goal-item.is (c.can_be_asked_for.ensures.0 c.if-not-can_be_asked_for.false))

pub returns : goal.returns
returns c = (λ _. subst (CanBeAsked c.args.program.now) (take_all c.loop-goal.goal-index c.args.goals.now c.loop-goal-test.false) c.loop-goal.invariant, λ _. refl)
