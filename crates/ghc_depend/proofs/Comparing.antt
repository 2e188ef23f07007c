-- States that lists of steps left: with the same steps they are one state, and with fewer steps one is the other without the rest.
use Rattle.ghc_depend.proofs.Words.{◌≡◌, ◌≤◌, ◌⊎◌, List, sym, ap, ◌∙◌, subst, inl, inr, arith, Some, None, true, false, is_some, VarName, GoalName, Tree, In, value_at, name_total, name_antisymmetric, Program, Query, State, Record, Replays, goal_total, Binds, IsBoundIn, IsMadeIn, IsConsumedIn, IsWithoutSteps, WithoutStepsIsOne, goal_antisymmetric}
use Rattle.std.specs.FinMap as finite
use Rattle.ghc_depend.proofs.Finding.{by_option, not_both, find_value, find_consumed, own, own_made, made_own}
use Rattle.ghc_depend.proofs.Results.{taken_at, IsUntaken, Results, of_query, query_unmade, goal_by}
use Rattle.ghc_depend.proofs.Placing.{results_of, place_of, front_in, consumed_once, bound_once, numbered_once}

module _ (query : Query) (rs new : List Record) (s t : State) (h : Results query rs s) (k : Results query new t)
    (to : (r : Record) → In r rs → In r new) (back : (r : Record) → In r new → In r rs) where
  same_store : s.store ≡ t.store
  same_store = finite.same_map name_total name_antisymmetric s.store t.store (λ x. elim (find_value (λ (r : Record). value_at r.effect.binds x) rs) [
    | inl p ↦ h.bound p.0 x p.1 p.2 p.3 ∙ sym (k.bound p.0 x p.1 (to p.0 p.2) p.3)
    | inr n ↦ h.unbound x n ∙ sym (k.unbound x (λ r i. n r (back r i)))
  ])

  same_goals : s.goals ≡ t.goals
  same_goals = finite.same_map goal_total goal_antisymmetric s.goals t.goals (λ g. elim (find_consumed rs g) [
    | inl p ↦ h.consumed p.0 g p.1 p.2 ∙ sym (k.consumed p.0 g (to p.0 p.1) p.2)
    | inr free ↦ elim (find_value (λ (r : Record). own r g) rs) [
      | inl p ↦ h.made p.0 g p.1 p.2 p.3 free ∙ sym (k.made p.0 g p.1 (to p.0 p.2) p.3 (λ r i. free r (back r i)))
      | inr n ↦ h.rest g n free ∙ sym (k.rest g (λ r i. n r (back r i)) (λ r i. free r (back r i)))
    ]
  ])

  -- the same steps left one state
  pub same_state : s ≡ t
  same_state i = record { goals = same_goals i; store = same_store i }

pub bound_value : (r : Record) (x : VarName) → Binds r x → (t : Tree) × (value_at r.effect.binds x ≡ Some t)
bound_value r x b = by_option (value_at r.effect.binds x) (λ n. let clash : false ≡ true = sym (ap is_some n) ∙ b in cc) (λ t e. (t, e))

module _ (P : Program) (query : Query) (rs gone left : List Record) (s t : State) (replay : Replays P query rs s) (k : Results query left t)
    (parted : (r : Record) → In r rs → In r gone ⊎ In r left) (apart : (r : Record) → In r gone → ¬ In r left)
    (of_gone : (r : Record) → In r gone → In r rs) (of_left : (r : Record) → In r left → In r rs) where
  h : Results query rs s
  h = results_of P query rs s replay

  -- a step of the one part and a step of the other are two
  never : (r c : Record) → In r gone → In c left → ¬ (c ≡ r)
  never r c i j e = apart c (subst (λ z. In z gone) (sym e) i) j

  unbound : (x : VarName) → IsBoundIn gone x → value_at t.store x ≡ None
  unbound x b = grind (arith, bound_value, by_option, never, bound_once)

  bound : (x : VarName) → ¬ IsBoundIn gone x → value_at t.store x ≡ value_at s.store x
  bound x n = elim (find_value (λ (r : Record). value_at r.effect.binds x) left) [
    | inl p ↦ k.bound p.0 x p.1 p.2 p.3 ∙ sym (h.bound p.0 x p.1 (of_left p.0 p.2) p.3)
    | inr none ↦ k.unbound x none ∙ sym (h.unbound x (λ r i. elim (parted r i) [
      | inl j ↦ by_option (value_at r.effect.binds x) (λ m. m) (λ w f. absurd (n (r, j, ap is_some f)))
      | inr j ↦ none r j
    ]))
  ]

  positive : (r : Record) → In r rs → 1 ≤ r.number
  positive r i = (replay.0.0 r i).0

  unmade : (g : GoalName) → IsMadeIn gone g → finite.get t.goals g ≡ None
  unmade g m = grind (arith, by_option, goal_by, never, numbered_once, own_made, of_query, positive)

  given_back : (g : GoalName) (r : Record) → In r gone → r.goal ≡ Some g → ¬ IsMadeIn gone g → finite.get t.goals g ≡ r.consumed
  given_back g r i e n =
      let p = place_of P query rs s replay r (of_gone r i) in
      let a = taken_at P p.state r p.fires g e in
      let free : IsUntaken left g = λ c j f. never r c i j (consumed_once P query rs s replay r c g (of_gone r i) (of_left c j) e f) in
      elim (goal_by query p.before p.state p.results g a.0 a.1) [
        | inl m ↦ elim (parted m.0 (front_in P query rs s replay r m.0 p m.1)) [
          | inl j ↦ absurd (n (m.0, j, own_made m.0 g a.0 m.2))
          | inr j ↦ k.made m.0 g a.0 j m.2 free
        ]
        | inr q ↦ k.rest g (query_unmade query left (λ c j. positive c (of_left c j)) g a.0 q.1) free ∙ q.1
      ] ∙ sym a.2

  others : (g : GoalName) → ¬ IsMadeIn gone g → ¬ IsConsumedIn gone g → finite.get t.goals g ≡ finite.get s.goals g
  others g no_make no_consume = elim (find_consumed left g) [
    | inl p ↦ k.consumed p.0 g p.1 p.2 ∙ sym (h.consumed p.0 g (of_left p.0 p.1) p.2)
    | inr free ↦
        let all_free : IsUntaken rs g = λ r i e. elim (parted r i) [ inl j ↦ no_consume (r, j, e) | inr j ↦ free r j e ] in
        elim (find_value (λ (r : Record). own r g) left) [
          | inl p ↦ k.made p.0 g p.1 p.2 p.3 free ∙ sym (h.made p.0 g p.1 (of_left p.0 p.2) p.3 all_free)
          | inr none ↦ k.rest g none free ∙ sym (h.rest g (λ r i. elim (parted r i) [
            | inl j ↦ by_option (own r g) (λ m. m) (λ w o. absurd (no_make (r, j, own_made r g w o)))
            | inr j ↦ none r j
          ]) all_free)
        ]
  ]

  -- the state that the rest left is the other without the steps gone
  pub without : IsWithoutSteps gone s t
  without = record { unbound = unbound; bound = bound; unmade = unmade; given_back = given_back; others = others }

module _ (gone : List Record) (s t u : State) (p : IsWithoutSteps gone s t) (q : IsWithoutSteps gone s u) where
  one_store : t.store ≡ u.store
  one_store = finite.same_map name_total name_antisymmetric t.store u.store (λ x. elim (find_value (λ (r : Record). value_at r.effect.binds x) gone) [
    | inl f ↦ let b : IsBoundIn gone x = (f.0, f.2, ap is_some f.3) in p.unbound x b ∙ sym (q.unbound x b)
    | inr n ↦ let none : ¬ IsBoundIn gone x = λ b. (let v = bound_value b.0 x b.2 in not_both v.1 (n b.0 b.1)) in p.bound x none ∙ sym (q.bound x none)
  ])

  one_goals : t.goals ≡ u.goals
  one_goals = finite.same_map goal_total goal_antisymmetric t.goals u.goals (λ g. elim (find_value (λ (r : Record). own r g) gone) [
    | inl f ↦ let m : IsMadeIn gone g = (f.0, f.2, own_made f.0 g f.1 f.3) in p.unmade g m ∙ sym (q.unmade g m)
    | inr n ↦
        let none : ¬ IsMadeIn gone g = λ m. (let v = made_own m.0 g m.2 in not_both v.1 (n m.0 m.1)) in
        elim (find_consumed gone g) [
          | inl f ↦ p.given_back g f.0 f.1 f.2 none ∙ sym (q.given_back g f.0 f.1 f.2 none)
          | inr free ↦ let untaken : ¬ IsConsumedIn gone g = λ c. free c.0 c.1 c.2 in p.others g none untaken ∙ sym (q.others g none untaken)
        ]
  ])

pub without_once : WithoutStepsIsOne
without_once gone s t u p q i = record { goals = one_goals gone s t u p q i; store = one_store gone s t u p q i }
