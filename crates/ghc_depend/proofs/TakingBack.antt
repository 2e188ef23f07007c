-- A state from which a step was taken back is the state without that step.
use Rattle.ghc_depend.proofs.Words.{◌≡◌, true, false, [], ◌∷◌, refl, sym, ap, ◌∙◌, subst, inl, inr, Some, None, is_some, if◌then◌else◌, VarName, GoalName, In, value_at, Program, Query, State, Record, Replays, IsTakenBack, MakesGoal, Binds, IsMadeIn, IsConsumedIn, IsBoundIn, IsWithoutSteps}
use Rattle.std.specs.FinMap as finite
use Rattle.ghc_depend.proofs.Placing.{place_of}
use Rattle.ghc_depend.proofs.Results.{taken_at}

module _ (P : Program) (query : Query) (kept : _) (s t : State) (r : Record) (replay : Replays P query kept s) (i : In r kept) (back : IsTakenBack r s t) where
  unbound : (x : VarName) → IsBoundIn (r ∷ []) x → value_at t.store x ≡ None
  unbound x (c, inl same, b) = back.store x ∙ ap (λ d. if d then None else value_at s.store x) (subst (λ (z : Record). Binds z x) same b)
  unbound x (c, inr j, b) = absurd j

  bound : (x : VarName) → ¬ IsBoundIn (r ∷ []) x → value_at t.store x ≡ value_at s.store x
  bound x never = back.store x ∙ elim (is_some (value_at r.effect.binds x)) as (λ d. is_some (value_at r.effect.binds x) ≡ d → (if d then None else value_at s.store x) ≡ value_at s.store x) [
    | true ↦ λ e. absurd (never (r, inl refl, e))
    | false ↦ λ e. refl
  ] refl

  unmade : (g : GoalName) → IsMadeIn (r ∷ []) g → finite.get t.goals g ≡ None
  unmade g (c, inl same, m) = back.goals.unmade g (subst (λ z. MakesGoal z g) same m)
  unmade g (c, inr j, m) = absurd j

  not_made : (g : GoalName) → ¬ IsMadeIn (r ∷ []) g → ¬ MakesGoal r g
  not_made g never m = never (r, inl refl, m)

  given_back : (g : GoalName) (c : Record) → In c (r ∷ []) → c.goal ≡ Some g → ¬ IsMadeIn (r ∷ []) g → finite.get t.goals g ≡ c.consumed
  given_back g c (inl same) e never =
      let goal : r.goal ≡ Some g = ap (λ (z : Record). z.goal) (sym same) ∙ e in
      let there = taken_at P (place_of P query kept s replay r i).state r (place_of P query kept s replay r i).fires g goal in
      back.goals.given_back g there.0 (goal, there.2) (not_made g never) ∙ sym there.2 ∙ ap (λ (z : Record). z.consumed) (sym same)
  given_back g c (inr j) e never = absurd j

  others : (g : GoalName) → ¬ IsMadeIn (r ∷ []) g → ¬ IsConsumedIn (r ∷ []) g → finite.get t.goals g ≡ finite.get s.goals g
  others g never none = back.goals.others g (not_made g never) (λ b h. none (r, inl refl, h.0))

  pub is_without : IsWithoutSteps (r ∷ []) s t
  is_without = record { unbound = unbound; bound = bound; unmade = unmade; given_back = given_back; others = others }
