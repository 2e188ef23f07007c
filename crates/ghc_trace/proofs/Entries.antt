-- The entries of a map of goals, in their order.
use Rattle.ghc_trace.proofs.Words.{◌≡◌, Bool, true, List, [], ◌∷◌, length, map, refl, sym, ap, subst, ◌∙◌, inl, inr, on_total, Any-dedup, Contains-from_dedup, IsStrictlySortedBy-dedup, Contains-permutation, IsPermutation-sym, IsDistinct-from_sorted, sorted_from_all_adjacent, Contains-from_lookup, lookup-from_Contains, ◌↔◌, ◌⊎◌, Option, Some, None, is_some, IsTrue, Ordering, Less, Equal, Greater, IsTotalOrder, eq_by_cmp_equiv, is_lt, eq_by_cmp, AllByRecursion, AllAdjacentBelow, Contains, dedup, IsSorted, IsPermutation, keys_of, GoalName, In, not_both, in_contains, contains_in, in_map, goal_cmp, goal_total, goal_antisymmetric, same_goal, value_is, mapped, Before}
use Rattle.std.specs.List.Sorted.{IsStrictlySortedBy}
use Rattle.std.specs.FinMap as finite

-- a value that is found, or nothing
pub found : {X : Type 0} (o : Option X) → ((x : X) × (o ≡ Some x)) ⊎ (o ≡ None)
found None = inr refl
found (Some x) = inl (x, refl)

-- of two results of which one stands before the other, so do what they come from
pub before_of_map : {X Y : Type 0} (f : X → Y) (xs : List X) (y z : Y) → Before (map f xs) y z → (a : X) × (b : X) × Before xs a b × (y ≡ f a) × (z ≡ f b)
before_of_map f [] y z h = absurd h
before_of_map f (x ∷ xs) y z (inl h) = let p = mapped f xs z h.1 in (x, p.0, inl (refl, p.1), h.0, p.2)
before_of_map f (x ∷ xs) y z (inr h) = let p = before_of_map f xs y z h in (p.0, p.1, inr p.2, p.3, p.4)

is_less : (o : Ordering) → true ≡ is_lt o → o ≡ Less
is_less Less e = refl
is_less Equal e = cc
is_less Greater e = cc

module _ {X : Type 0} where
  below_in : (g : GoalName) (es : List (GoalName × X)) (e : GoalName × X) → AllByRecursion (λ h. goal_cmp g h ≡ Less) (keys_of es) → In e es → goal_cmp g e.0 ≡ Less
  below_in g [] e h i = absurd i
  below_in g (d ∷ es) e h (inl s) = ap (λ z. goal_cmp g z.0) s ∙ h.0
  below_in g (d ∷ es) e h (inr i) = below_in g es e h.1 i

  -- of two entries, the one that stands before has the lesser name
  pub rises : (es : List (GoalName × X)) (a b : GoalName × X) → IsStrictlySortedBy goal_cmp (keys_of es) → Before es a b → goal_cmp a.0 b.0 ≡ Less
  unfolding IsStrictlySortedBy
  rises [] a b s h = absurd h
  rises (e ∷ es) a b s (inl h) = ap (λ z. goal_cmp z.0 b.0) h.0 ∙ below_in e.0 es b s.0 h.1
  rises (e ∷ es) a b s (inr h) = rises es a b s.1 h

  -- what a map finds is one of its entries
  pub entry_in : (es : List (GoalName × X)) (g : GoalName) (x : X) → finite.get (finite.from_entries {R = goal_cmp} es) g ≡ Some x → In (g, x) es
  entry_in es g x e = contains_in es (g, x) (Contains-from_lookup same_goal g x es (value_is goal_total goal_antisymmetric g es ∙ e))

  -- and each entry is found
  pub in_entry : (es : List (GoalName × X)) (e : GoalName × X) → IsStrictlySortedBy goal_cmp (keys_of es) → In e es → finite.get (finite.from_entries {R = goal_cmp} es) e.0 ≡ Some e.1
  in_entry es e s i =
      sym (value_is goal_total goal_antisymmetric e.0 es) ∙ lookup-from_Contains (eq_by_cmp_equiv goal_total) e.0 e.1 es (IsDistinct-from_sorted goal_cmp (keys_of es) s) (in_contains es e i)

  -- the order of entries by name
  abbrev pub by_name : GoalName × X → GoalName × X → Ordering
  by_name a b = goal_cmp a.0 b.0

  by_name_total : IsTotalOrder by_name
  by_name_total = on_total (λ (e : GoalName × X). e.0) goal_total

  -- whether an entry has a lesser name than the other, and whether they have one name
  abbrev pub lesser : GoalName × X → GoalName × X → Bool
  lesser a b = is_lt (by_name a b)

  abbrev pub alike : GoalName × X → GoalName × X → Bool
  alike = eq_by_cmp by_name

  names_above : (a : GoalName × X) (es : List (GoalName × X)) → AllByRecursion (λ e. by_name a e ≡ Less) es → AllByRecursion (λ h. goal_cmp a.0 h ≡ Less) (keys_of es)
  names_above a [] h = tt
  names_above a (e ∷ es) h = (h.0, names_above a es h.1)

  -- where entries rise by name, so do the names
  names_rise : (es : List (GoalName × X)) → IsStrictlySortedBy by_name es → IsStrictlySortedBy goal_cmp (keys_of es)
  unfolding IsStrictlySortedBy
  names_rise [] s = tt
  names_rise (e ∷ es) s = (names_above e es s.0, names_rise es s.1)

  -- entries of which each has a lesser name than the next are in order
  pub rising_by_neighbours : (es : List (GoalName × X)) (none : GoalName × X) → AllAdjacentBelow (λ a b. true ≡ lesser a b) es (length es) → IsStrictlySortedBy goal_cmp (keys_of es)
  rising_by_neighbours es none h = names_rise es (sorted_from_all_adjacent by_name_total es none (λ k below. is_less _ (h k none below)))

  -- Of entries that are put in order one is left of each name.
  module _ (es sorted left : List (GoalName × X)) (moved : IsPermutation es sorted) (in_order : IsSorted by_name sorted) (is : left ≡ dedup alike sorted) where
    pub left_rise : IsStrictlySortedBy goal_cmp (keys_of left)
    left_rise = subst (λ l. IsStrictlySortedBy goal_cmp (keys_of l)) (sym is) (names_rise (dedup alike sorted) (IsStrictlySortedBy-dedup by_name_total (λ a b. refl) sorted in_order))

    pub left_of : (e : GoalName × X) → In e left → In e es
    left_of e i = contains_in es e (Contains-permutation sorted es e (IsPermutation-sym es sorted moved) (Contains-from_dedup alike sorted e (subst (λ l. Contains l e) is (in_contains left e i))))

    pub names_left : (g : GoalName) → In g (keys_of left) ↔ In g (keys_of es)
    names_left g = (
      λ i. let p = mapped (λ (e : GoalName × X). e.0) left g i in subst (λ h. In h (keys_of es)) (sym p.2) (in_map (λ (e : GoalName × X). e.0) es p.0 (left_of p.0 p.1)),
      λ i.
          let p = mapped (λ (e : GoalName × X). e.0) es g i in
          let kept = Any-dedup (eq_by_cmp_equiv by_name_total) sorted p.0 (Contains-permutation es sorted p.0 moved (in_contains es p.0 p.1)) in
          let there : In kept.1 left = subst (In kept.1) (sym is) (contains_in (dedup alike sorted) kept.1 (kept.0, kept.2, kept.3)) in
          subst (λ h. In h (keys_of left)) (sym (p.2 ∙ same_goal p.0.0 kept.1.0 kept.4)) (in_map (λ (e : GoalName × X). e.0) left kept.1 there),
    )

  -- the goals of a map are those that its entries name
  pub named_in : (es : List (GoalName × X)) → IsStrictlySortedBy goal_cmp (keys_of es) → (g : GoalName) → IsTrue (finite.contains_key (finite.from_entries {R = goal_cmp} es) g) ↔ In g (keys_of es)
  named_in es s g = (
    λ t. elim (found (finite.get (finite.from_entries {R = goal_cmp} es) g)) [
      | inl f ↦ in_map (λ (e : GoalName × X). e.0) es (g, f.0) (entry_in es g f.0 f.1)
      | inr n ↦ absurd (not_both (is_some (finite.get (finite.from_entries {R = goal_cmp} es) g)) (ap is_some n) t)
    ],
    λ i.
        let p = mapped (λ (e : GoalName × X). e.0) es g i in
        ap is_some (ap (finite.get (finite.from_entries {R = goal_cmp} es)) p.2 ∙ in_entry es p.0 s p.1),
  )
