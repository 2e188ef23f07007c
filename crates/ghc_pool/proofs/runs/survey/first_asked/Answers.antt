use Rattle.ghc_pool.proofs.Words.{refl, sym, subst, inl, inr, In, IsInQuestion, not_both}
use Rattle.ghc_pool.proofs.runs.survey.first_asked.Goals as goal

pub loop-goal-init : goal.loop-goal-init
loop-goal-init c = rw c.into_iter-goal-iterator.ensures.into_iter_gives.0 (record { there = λ g i. i; left = λ g i q. i })

pub returns-then-is_in_question-clause-some : goal.returns-then-is_in_question-clause-some
returns-then-is_in_question-clause-some c =
    let goal = c.in-Some.goal.now in
    (c.loop-goal.invariant.there goal (subst (In goal) (sym c.in-Some.ensures.steps) (inl refl)), c.is_in_question.ensures.0 c.if-is_in_question.true)

pub loop-goal-preserved : goal.loop-goal-preserved
loop-goal-preserved c =
    let goal = c.in-Some.goal.now in
    let unasked = λ (q : IsInQuestion c.args.root c.args.core.now.world.kept goal). not_both c.is_in_question.result c.if-is_in_question.false (c.is_in_question.ensures.1 q) in
    record {
      there = λ g i. c.loop-goal.invariant.there g (subst (In g) (sym c.in-Some.ensures.steps) (inr i));
      left = λ g i q. elim (subst (In g) c.in-Some.ensures.steps (c.loop-goal.invariant.left g i q)) [
        | inl e ↦ absurd (unasked (subst (IsInQuestion c.args.root c.args.core.now.world.kept) e q))
        | inr k ↦ k
      ];
    }

pub returns-clause-none : goal.returns-clause-none
returns-clause-none c g i q = subst (In g) c.in-None.ensures.steps.0 (c.loop-goal.invariant.left g i q)
