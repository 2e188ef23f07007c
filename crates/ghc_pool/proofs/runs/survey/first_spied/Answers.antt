use Rattle.ghc_pool.proofs.Words.{refl, sym, subst, inl, inr, In, IsInQuestion, IsSpiedIn, not_both}
use Rattle.ghc_pool.proofs.Spied.{nothing_spied}
use Rattle.ghc_pool.proofs.runs.survey.first_spied.Goals as goal

pub returns-then-is_empty-clause-none : goal.returns-then-is_empty-clause-none
returns-then-is_empty-clause-none c g i q = nothing_spied c.args.spies.now c.args.core.now.world g (c.is_empty.ensures.0 c.if-is_empty.true)

pub loop-goal-init : goal.loop-goal-init
loop-goal-init c = rw c.into_iter-goal-iterator.ensures.into_iter_gives.0 (record { there = λ g i. i; left = λ g i q s. i })

pub returns-then-is_spied_and_asked-clause-some : goal.returns-then-is_spied_and_asked-clause-some
returns-then-is_spied_and_asked-clause-some c =
    let goal = c.in-Some.goal.now in
    let met = c.is_spied_and_asked.ensures.0 c.if-is_spied_and_asked.true in
    (c.loop-goal.invariant.there goal (subst (In goal) (sym c.in-Some.ensures.steps) (inl refl)), met.0, met.1)

pub loop-goal-preserved : goal.loop-goal-preserved
loop-goal-preserved c =
    let goal = c.in-Some.goal.now in
    let unmet = λ (k : IsInQuestion c.args.root c.args.core.now.world.kept goal × IsSpiedIn c.args.spies.now c.args.core.now.world goal). not_both c.is_spied_and_asked.result c.if-is_spied_and_asked.false (c.is_spied_and_asked.ensures.1 k) in
    record {
      there = λ g i. c.loop-goal.invariant.there g (subst (In g) (sym c.in-Some.ensures.steps) (inr i));
      left = λ g i q s. elim (subst (In g) c.in-Some.ensures.steps (c.loop-goal.invariant.left g i q s)) [
        | inl e ↦ absurd (unmet (subst (λ h. IsInQuestion c.args.root c.args.core.now.world.kept h × IsSpiedIn c.args.spies.now c.args.core.now.world h) e (q, s)))
        | inr k ↦ k
      ];
    }

pub returns-clause-none : goal.returns-clause-none
returns-clause-none c g i q s = subst (In g) c.in-None.ensures.steps.0 (c.loop-goal.invariant.left g i q s)
