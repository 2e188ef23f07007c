use Rattle.ghc_hooks.proofs.Words.{◌≡◌, ◌∙◌, refl, sym, ap, subst, same_is, same_goal, goal_cmp, goals_held, arith}
use Rattle.std.proofs.lemmas.Bool.{not-false}
use Rattle.std.specs.FinSet as set
use Rattle.ghc_hooks.proofs.Few.{put_again, in_one, differ, alike, pair, pair_is, pair_counted, put_first, put_second}
use Rattle.ghc_hooks.proofs.few_goals.FewGoals.insert.Goals.{in-More-3, in-Nothing-3, else-ne-2-via-then-ne-2+else-ne-3, else-ne-2-via-else-ne-2}
use Rattle.ghc_hooks.proofs.few_goals.FewGoals.insert.Goals as goal

pub returns-else-ne-clause-ok : goal.returns-else-ne-clause-ok
returns-else-ne-clause-ok c = grind (arith, goals_held, not-false, same_goal, same_is, put_again, in_one)

pub invariant_of-self-then-ne-2 : goal.invariant_of-self-then-ne-2
invariant_of-self-then-ne-2 c = (refl, pair_counted c.in-One.other c.args.goal (differ c.in-One.other c.args.goal c.ne.result c.ne.ensures c.if-ne.true))

pub returns-then-ne-clause-ok : goal.returns-then-ne-clause-ok
returns-then-ne-clause-ok c =
    let two : pair c.in-One.other c.args.goal ≡ set.insert c.args.self.now c.args.goal =
    pair_is c.in-One.other c.args.goal ∙ ap (λ s. set.insert s c.args.goal) (ap goals_held (sym c.in-One.is) ∙ c.self.view_is) in
    elim c.match-self-3.branch [ in-More-3 w ↦ rw w.self-is two | in-Nothing-3 w ↦ rw w.self-is two ]

pub returns-in_ok-three-in-Two-clause-ok : goal.returns-in_ok-three-in-Two-clause-ok
returns-in_ok-three-in-Two-clause-ok c =
    let is : pair c.parts.result.0 c.parts.result.1 ≡ c.args.self.now =
    ap (λ l. set.from_list {R = goal_cmp} l) (sym c.parts.ensures) ∙ ap goals_held (sym c.in-Two.is) ∙ c.self.view_is in
    c.in_ok-three-in-Two.ensures ∙ ap (λ s. set.insert s c.args.goal) (sym (pair_is c.parts.result.0 c.parts.result.1) ∙ is)

pub returns-else-ne-2-clause-ok : goal.returns-else-ne-2-clause-ok
returns-else-ne-2-clause-ok c =
    let f = c.parts.result.0 in
    let s = c.parts.result.1 in
    let is : pair f s ≡ c.args.self.now =
    ap (λ l. set.from_list {R = goal_cmp} l) (sym c.parts.ensures) ∙ ap goals_held (sym c.in-Two.is) ∙ c.self.view_is in
    let view = ap goals_held (sym c.in-Two.is) ∙ c.self.view_is in
    elim c.else-ne-2.branch [
      | else-ne-2-via-then-ne-2+else-ne-3 w ↦
          rw w.self-is (view ∙ subst (λ z. z ≡ set.insert z c.args.goal) is (put_second f s ∙ ap (set.insert (pair f s)) (alike s c.args.goal w.ne-then-ne-2.result w.ne-then-ne-2.ensures w.if-ne-3.false)))
      | else-ne-2-via-else-ne-2 w ↦
          rw w.self-is (view ∙ subst (λ z. z ≡ set.insert z c.args.goal) is (put_first f s ∙ ap (set.insert (pair f s)) (alike f c.args.goal c.ne-in-Two.result c.ne-in-Two.ensures w.if-ne-2.false)))
    ]
