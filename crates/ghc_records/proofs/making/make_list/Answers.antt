use Rattle.ghc_records.proofs.Words.{◌≡◌, ◌+◌, ℕ, List, [], ◌∷◌, ◌++◌, length, sym, ap, ◌∙◌, arith, length-append, Goal, Goals, with_makes}
use Rattle.std.specs.FinMap as finite
use Rattle.ghc_records.proofs.Made.{name, last_first}
use Rattle.ghc_records.proofs.making.make_list.Goals as goal

-- where the last goal of a list was put there, the others are left to be put there
next : (all left : List Goal) (g : Goal) (n place : ℕ) (m t last : Goals) → all ≡ left ++ g ∷ [] → place ≡ length all → t ≡ finite.insert m (name n place) g → with_makes n 1 all m ≡ last → with_makes n 1 left t ≡ last
next all left g n place m t last split here made h =
    let long = ap length split ∙ length-append left (g ∷ []) in
    let behind : place ≡ 1 + length left = omega (arith, long, here) in
    ap (with_makes n 1 left) (made ∙ ap (λ i. finite.insert m (name n i) g) behind) ∙ sym (last_first n 1 left g m) ∙ ap (λ l. with_makes n 1 l m) (sym split) ∙ h

pub loop-goal-preserved : goal.loop-goal-preserved
loop-goal-preserved c =
    let long = ap length c.in-Some.ensures.items ∙ length-append c.pop.new.self.items (c.in-Some.goal ∷ []) in (
      omega (arith, long, c.loop-goal.invariant.0),
      omega (arith, long, c.loop-goal.invariant.1, c.put.ensures.room),
      next c.loop-goal.makes.items c.pop.new.self.items c.in-Some.goal c.args.step c.loop-goal.place c.loop-goal.goals.held c.put.new.self.held _ c.in-Some.ensures.items c.loop-goal.invariant.0 c.put.ensures.held c.loop-goal.invariant.2,
    )
