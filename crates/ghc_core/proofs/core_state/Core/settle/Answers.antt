use Rattle.ghc_core.proofs.Words.{◌≡◌, ◌+◌, subst, sym, ap, ◌∙◌, arith, err_from_is_err_and, goal_cmp, one_less, tried, AreNoted, tried_often}
use Rattle.std.specs.FinSet as set
use Rattle.ghc_term.proofs.ListsLemmas.{not_both}
use Rattle.ghc_core.proofs.Settling.{one_noted, tried_more}
use Rattle.ghc_core.proofs.core_state.Core.settle.Goals as goal

pub loop-goal-smaller : goal.loop-goal-smaller
loop-goal-smaller c =
    let there = ap (λ s. set.contains s c.in-Some.goal) (sym c.tries-in-loop-goal.ensures.untried) ∙ c.in-Some.ensures.some in
    omega (arith, one_less c.loop-goal.self.untried c.in-Some.goal there, ap set.len c.in_ok-try_untried.ensures.untried)

pub loop-goal-preserved : goal.loop-goal-preserved
loop-goal-preserved c =
    let before = c.loop-goal.invariant in
    let there = ap (λ s. set.contains s c.in-Some.goal) (sym c.tries-in-loop-goal.ensures.untried) ∙ c.in-Some.ensures.some in
    record {
      world = c.in_ok-try_untried.ensures.world ∙ before.world;
      often = before.often + 1;
      noted = subst (AreNoted (before.often + 1) c.args.self.now.notes c.args.self.now.untried c.try_untried.new.self.notes) (sym c.in_ok-try_untried.ensures.untried)
          (one_noted c.in-Some.goal before.noted there c.in_ok-try_untried.ensures.kept);
      counted = c.in_ok-try_untried.ensures.counted ∙ ap tried before.counted ∙ tried_more before.often c.args.self.now.meter;
    }

pub returns-in_err-try_untried-clause-left : goal.returns-in_err-try_untried-clause-left
returns-in_err-try_untried-clause-left c =
    let p = err_from_is_err_and c.from_residual.result c.from_residual.ensures.1 in
    let there = ap (λ s. set.contains s c.in-Some.goal) (sym c.tries-in-loop-goal.ensures.untried) ∙ c.in-Some.ensures.some in
    rw p.1
    (λ none. not_both (set.contains c.loop-goal.self.untried c.in-Some.goal) (ap (λ s. set.contains s c.in-Some.goal) (sym c.in_err-try_untried.ensures.untried_stay ∙ none) ∙ set.contains-empty goal_cmp c.in-Some.goal) there)

-- as many were noted as there were
often : (c : goal.In_default) → c.loop-goal.invariant.often ≡ c.untried_count-count.result
often c =
    let none : set.len c.loop-goal.self.untried ≡ 0 = ap set.len (sym c.tries-in-loop-goal.ensures.untried ∙ c.in_default.ensures.none) ∙ set.len-empty goal_cmp in
    let count : c.untried_count-count.result ≡ set.len c.args.self.now.untried = c.untried_count-count.ensures ∙ ap set.len c.tries.ensures.untried in
    let all = c.loop-goal.invariant.noted.fewer in
    omega (arith, none, count, all)

pub returns-clause-noted : goal.returns-clause-noted
returns-clause-noted c = subst (λ k. AreNoted k c.args.self.now.notes c.args.self.now.untried c.loop-goal.self.notes c.loop-goal.self.untried) (often c) c.loop-goal.invariant.noted

pub returns-clause-counted : goal.returns-clause-counted
returns-clause-counted c = c.loop-goal.invariant.counted ∙ ap (λ k. tried_often k c.args.self.now.meter) (often c)
