use Rattle.ghc_hooks.proofs.Words.{◌≡◌, ◌∙◌, ap, sym, subst, arith, not_both, eq_by_cmp, goal_cmp, same_is, same_goal, goals_held}
use Rattle.std.specs.FinSet as set
use Rattle.ghc_fire.proofs.GoalNames.{same}
use Rattle.ghc_hooks.proofs.Looking.{goal_itself}
use Rattle.ghc_hooks.specs.inner.FewGoals.{HasEachOnce}
use Rattle.ghc_hooks.proofs.Few.{take_from_none, take_the_one, take_another, pair, pair_apart, take_first, take_second, take_neither}
use Rattle.ghc_hooks.proofs.few_goals.FewGoals.remove.Goals.{in-More-2, in-Nothing-2, in-More-3, in-Nothing-3}
use Rattle.ghc_hooks.proofs.few_goals.FewGoals.remove.Goals as goal

pub returns-in-Nothing : goal.returns-in-Nothing
returns-in-Nothing c = c.self.view_is ∙ subst (λ s. s ≡ set.remove s c.args.goal) (ap goals_held (sym c.in-Nothing.is) ∙ c.self.view_is) (take_from_none c.args.goal)

pub returns-then-eq : goal.returns-then-eq
returns-then-eq c =
    let one = ap goals_held (sym c.in-One.is) ∙ c.self.view_is in
    let p : c.in-One.other ≡ c.args.goal = same_goal c.in-One.other c.args.goal (sym (same_is c.in-One.other c.args.goal) ∙ sym c.eq.ensures ∙ c.if-eq.true) in
    let gone : set.empty {R = goal_cmp} ≡ set.remove c.args.self.now c.args.goal =
    take_the_one c.in-One.other ∙ ap (set.remove (set.insert (set.empty {R = goal_cmp}) c.in-One.other)) p ∙ ap (λ s. set.remove s c.args.goal) one in
    grind (arith, gone)

pub returns-else-eq : goal.returns-else-eq
returns-else-eq c = grind (arith, goals_held, take_another, not_both, same_is, goal_itself)

pub returns-then-eq-2 : goal.returns-then-eq-2
returns-then-eq-2 c =
    let f = c.parts.result.0 in
    let s = c.parts.result.1 in
    let is : pair f s ≡ c.args.self.now = ap (λ l. set.from_list {R = goal_cmp} l) (sym c.parts.ensures) ∙ ap goals_held (sym c.in-Two.is) ∙ c.self.view_is in
    let apart = pair_apart f s (subst (λ l. set.len (set.from_list {R = goal_cmp} l) ≡ 2) c.parts.ensures (subst HasEachOnce c.in-Two.is c.self.invariant).1) in
    let p : f ≡ c.args.goal = same_goal f c.args.goal (sym (same_is f c.args.goal) ∙ sym c.eq-in-Two.ensures ∙ c.if-eq-2.true) in
    let left : set.insert (set.empty {R = goal_cmp}) s ≡ set.remove c.args.self.now c.args.goal = take_first f s apart ∙ ap (set.remove (pair f s)) p ∙ ap (λ z. set.remove z c.args.goal) is in
    elim c.match-self-3.branch [ in-More-2 w ↦ rw w.self-is left | in-Nothing-2 w ↦ rw w.self-is left ]

pub returns-then-eq-3 : goal.returns-then-eq-3
returns-then-eq-3 c =
    let f = c.parts.result.0 in
    let s = c.parts.result.1 in
    let is : pair f s ≡ c.args.self.now = ap (λ l. set.from_list {R = goal_cmp} l) (sym c.parts.ensures) ∙ ap goals_held (sym c.in-Two.is) ∙ c.self.view_is in
    let apart = pair_apart f s (subst (λ l. set.len (set.from_list {R = goal_cmp} l) ≡ 2) c.parts.ensures (subst HasEachOnce c.in-Two.is c.self.invariant).1) in
    let p : s ≡ c.args.goal = same_goal s c.args.goal (sym (same_is s c.args.goal) ∙ sym c.eq-else-eq-2.ensures ∙ c.if-eq-3.true) in
    let left : set.insert (set.empty {R = goal_cmp}) f ≡ set.remove c.args.self.now c.args.goal = take_second f s apart ∙ ap (set.remove (pair f s)) p ∙ ap (λ z. set.remove z c.args.goal) is in
    elim c.match-self-4.branch [ in-More-3 w ↦ rw w.self-is left | in-Nothing-3 w ↦ rw w.self-is left ]

pub returns-else-eq-3 : goal.returns-else-eq-3
returns-else-eq-3 c =
    let f = c.parts.result.0 in
    let s = c.parts.result.1 in
    let view = ap goals_held (sym c.in-Two.is) ∙ c.self.view_is in
    let is : pair f s ≡ c.args.self.now = ap (λ l. set.from_list {R = goal_cmp} l) (sym c.parts.ensures) ∙ view in
    view ∙ subst (λ z. z ≡ set.remove z c.args.goal) is (take_neither f s c.args.goal
    (λ p. not_both (same f c.args.goal) (sym c.eq-in-Two.ensures ∙ c.if-eq-2.false) (same_is f c.args.goal ∙ ap (λ z. eq_by_cmp goal_cmp z c.args.goal) p ∙ goal_itself c.args.goal))
    (λ p. not_both (same s c.args.goal) (sym c.eq-else-eq-2.ensures ∙ c.if-eq-3.false) (same_is s c.args.goal ∙ ap (λ z. eq_by_cmp goal_cmp z c.args.goal) p ∙ goal_itself c.args.goal)))
