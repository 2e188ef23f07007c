-- The goals after a change were there before it, or it brings them.
use Rattle.ghc_trace.proofs.Words.{◌≡◌, ◌⊎◌, List, sym, ap, ◌∙◌, inl, inr, Option, Some, None, option_or, coded_option, GoalName, Goal, same_decided, some_decided, goal_name_code, State, Record, after, without_goal, MakesGoal, kept_goal, IsConsumedIn, IsWithoutSteps, own, makes_at, own_made, World, IsStanding, Change, Comes as comes, Goes as goes, Reorders as reorders, all_gone, CanChange, Changes, comes_last, going_leaves, Brings}
use Rattle.std.specs.FinMap as finite

found_in_either : (a b : Option Goal) (g : Goal) → option_or a b ≡ Some g → (a ≡ Some g) ⊎ (b ≡ Some g)
found_in_either None b g e = inr e
found_in_either (Some h) b g e = inl e

taken_from : (w v : World) (r : Record) → v.state ≡ after w.state r → (h : GoalName) (b : Goal) → finite.get v.state.goals h ≡ Some b → (finite.get w.state.goals h ≡ Some b) ⊎ MakesGoal r h
taken_from w v r e h b f =
    let old = without_goal r.goal w.state.goals in
    elim (found_in_either (own r h) (finite.get old h) b (sym (makes_at r.number 1 r.effect.makes old h) ∙ ap (λ (z : State). finite.get z.goals h) (sym e) ∙ f)) [
      | inl m ↦ inr (own_made r h b m)
      | inr o ↦ inl (kept_goal w.state.goals r.goal h b o)
    ]

nothing_found : {b : Goal} → None ≡ Some b → ⊥
nothing_found e = cc

given_from : (w v : World) (gone : List Record) → IsWithoutSteps gone w.state v.state → (h : GoalName) (b : Goal) → finite.get v.state.goals h ≡ Some b → (finite.get w.state.goals h ≡ Some b) ⊎ IsConsumedIn gone h
given_from w v gone without h b f = elim (some_decided gone (λ (r : Record). r.goal ≡ Some h) (λ r i. same_decided (coded_option goal_name_code) r.goal (Some h))) [
  | inl e ↦ inr e
  | inr n ↦ inl (sym (without.others h (λ m. nothing_found (sym (without.unmade h m) ∙ f)) n) ∙ f)
]

-- after each change
pub changed_from : (w v : World) (change : Change) → IsStanding w → CanChange w change → Changes w change v → (h : GoalName) (b : Goal) → finite.get v.state.goals h ≡ Some b
    → (finite.get w.state.goals h ≡ Some b) ⊎ Brings change h
changed_from w v (comes from r) s can e = taken_from w v r (ap (λ (z : World). z.state) e ∙ (comes_last from r w).state)
changed_from w v (goes how gone) s can e = given_from w v (all_gone gone) (going_leaves w v s how gone can e)
changed_from w v (reorders a) s can e = λ h b f. inl (ap (λ (z : World). finite.get z.state.goals h) (sym e) ∙ f)
