use Rattle.std.proofs.Common.{get_or, is_ok, inl, inr, subst}
use Rattle.std.proofs.lemmas.List.{take_all}
use Rattle.ghc_term.specs.Lists.{In}
use Rattle.ghc_term.specs.declared.goal_name.GoalName.{GoalName}
use Rattle.ghc_hooks.proofs.LookingAll.{earlier, latest}
use Rattle.ghc_shared.proofs.Listing.{in_pushed}
use Rattle.ghc_shared.proofs.waking.list_all.Goals as goal

pub loop-goal-init : goal.loop-goal-init
loop-goal-init c = λ g i. inl i

pub loop-goal-preserved : goal.loop-goal-preserved
loop-goal-preserved c =
    let none : GoalName = record { step = 0; place = 0 } in
    let gs = c.args.goals.now in
    let i = c.loop-goal.goal-index in
    let within = c.loop-goal-test.true in
    λ g k. elim (in_pushed (is_ok c.push.result) c.loop-goal.list.items (get_or gs i none) g (subst (In g) c.push.ensures.items k)) [
      | inl was ↦ elim (c.loop-goal.invariant g was) [ inl old ↦ inl old | inr more ↦ inr (earlier gs i none within g more) ]
      | inr e ↦ inr (latest gs i none within g e)
    ]

pub returns : goal.returns
returns c = λ g k. elim (c.loop-goal.invariant g k) [ inl old ↦ inl old | inr more ↦ inr (subst (In g) (take_all c.loop-goal.goal-index c.args.goals.now c.loop-goal-test.false) more) ]
