-- Names and values in two lists beside each other, and the place of each name in them.
use Rattle.ghc_term.proofs.Words.{◌≡◌, ◌≢◌, ◌<◌, ℕ, zero, suc, cond, false, List, [], ◌∷◌, inl, inr, length, refl, sym, ap, ◌∙◌, subst, arith, Option, Some, None, slice_get, is_some, zip, AllByRecursion, keys_of, length-keys_of, eq_by_cmp, slice_get_within, slice_get_cases, GoalName, goal_cmp, values_by, names_of, ArePlaces}
use Rattle.std.specs.List.{IsDistinct}
use Rattle.std.specs.FinMap as finite
use Rattle.std.specs.FinSet as set
use Rattle.ghc_term.proofs.GoalNames.{goal_total, same, same_is, itself, apart}
use Rattle.ghc_term.proofs.GoalMaps.{names_are, count_of_entries}
use Rattle.ghc_term.proofs.Placing.{one_value}

-- the value at a place, where there is one
abbrev pub value_at : {V : Type 0} → Option ℕ → List V → Option V
value_at None vs = None
value_at (Some i) vs = slice_get vs i

module _ {V : Type 0} where
  found_at : (ns : List GoalName) (vs : List V) (q : GoalName) (i : ℕ) → slice_get ns i ≡ Some q → ((j : ℕ) → slice_get ns j ≡ Some q → j ≡ i) → finite.find goal_cmp q (zip ns vs) ≡ slice_get vs i
  found_at [] vs q i e once = let clash : None ≡ Some q = e in cc
  found_at (n ∷ ns) [] q i e once = refl
  found_at (n ∷ ns) (v ∷ vs) q zero e once =
      ap (λ b. cond b (Some v) (finite.find goal_cmp q (zip ns vs))) (ap (eq_by_cmp goal_cmp q) (one_value n q e) ∙ itself q)
  found_at (n ∷ ns) (v ∷ vs) q (suc i) e once =
      ap (λ b. cond b (Some v) (finite.find goal_cmp q (zip ns vs))) (apart q n (λ s. let at = once zero (ap Some (sym s)) in omega (arith, at)))
      ∙ found_at ns vs q i e (λ j g. let at = once (suc j) g in omega (arith, at))

  not_found : (ns : List GoalName) (vs : List V) (q : GoalName) → ((j : ℕ) → ¬ (slice_get ns j ≡ Some q)) → finite.find goal_cmp q (zip ns vs) ≡ None
  not_found (n ∷ ns) (v ∷ vs) q none =
      ap (λ b. cond b (Some v) (finite.find goal_cmp q (zip ns vs))) (apart q n (λ s. none zero (ap Some (sym s)))) ∙ not_found ns vs q (λ j. none (suc j))
  not_found ns vs q none = refl

  module _ (ns : List GoalName) (vs : List V) (places : finite.FinMap goal_cmp ℕ) (h : ArePlaces ns (length vs) places) where
    -- under each name stands the value at its place
    pub held_is : (q : GoalName) → finite.get (values_by ns vs) q ≡ value_at (finite.get places q) vs
    held_is q = finite.get-from_entries goal_total (zip ns vs) q ∙ elim (finite.get places q) as (λ o. finite.get places q ≡ o → finite.find goal_cmp q (zip ns vs) ≡ value_at o vs) [
      | None ↦ λ e. not_found ns vs q (λ j g. let clash : Some j ≡ None = sym ((h.2 q j).1 g) ∙ e in cc)
      | Some i ↦ λ e. found_at ns vs q i ((h.2 q i).0 e) (λ j g. one_value j i (sym ((h.2 q j).1 g) ∙ e))
    ] refl

    pub within : (q : GoalName) (i : ℕ) → finite.get places q ≡ Some i → i < length ns
    within q i e = slice_get_within ns i q ((h.2 q i).0 e)

    -- another name stands elsewhere
    pub elsewhere : (q r : GoalName) (i j : ℕ) → finite.get places q ≡ Some i → finite.get places r ≡ Some j → q ≢ r → i ≢ j
    elsewhere q r i j a b n e = n (one_value q r (sym ((h.2 q i).0 a) ∙ ap (slice_get ns) e ∙ (h.2 r j).0 b))

has_value : {V : Type 0} (vs : List V) (o : Option ℕ) → ((i : ℕ) → o ≡ Some i → i < length vs) → is_some (value_at o vs) ≡ is_some o
has_value vs None h = refl
has_value vs (Some i) h = elim (slice_get_cases vs i).1 [ inl a ↦ ap is_some a.2 | inr b ↦ absurd (let low = h i refl in omega (arith, low, b.0)) ]

-- names that have a place are those that have a value
pub has_is : {V : Type 0} (ns : List GoalName) (vs : List V) (places : finite.FinMap goal_cmp ℕ) (h : ArePlaces ns (length vs) places) (q : GoalName) → finite.contains_key (values_by ns vs) q ≡ finite.contains_key places q
has_is ns vs places h q =
    ap is_some (held_is ns vs places h q) ∙ has_value vs (finite.get places q) (λ i e. let at = within ns vs places h q i e in omega (arith, at, h.0))

keys_are : {V : Type 0} (ns : List GoalName) (vs : List V) → length vs ≡ length ns → keys_of (zip ns vs) ≡ ns
keys_are [] vs e = refl
keys_are (n ∷ ns) [] e = absurd (omega (arith, e))
keys_are (n ∷ ns) (v ∷ vs) e = ap (λ l. n ∷ l) (keys_are ns vs (omega (arith, e)))

-- the names of the values are those of the list
pub list_is : {V : Type 0} (ns : List GoalName) (vs : List V) → length vs ≡ length ns → set.from_list ns ≡ names_of (values_by ns vs)
list_is ns vs e = ap (λ l. set.from_list {R = goal_cmp} l) (sym (keys_are ns vs e)) ∙ names_are (zip ns vs)

others_differ : (k : GoalName) (ks : List GoalName) → ((j : ℕ) → ¬ (slice_get ks j ≡ Some k)) → AllByRecursion (λ y. same k y ≡ false) ks
others_differ k [] u = tt
others_differ k (y ∷ ks) u = (same_is k y ∙ apart k y (λ s. u zero (ap Some (sym s))), others_differ k ks (λ j. u (suc j)))

distinct : (ks : List GoalName) → ((q : GoalName) (i j : ℕ) → slice_get ks i ≡ Some q → slice_get ks j ≡ Some q → i ≡ j) → IsDistinct same ks
unfolding IsDistinct
distinct [] u = tt
distinct (k ∷ ks) u = (
  others_differ k ks (λ j e. let at = u k (suc j) zero e refl in omega (arith, at)),
  distinct ks (λ q i j a b. let at = u q (suc i) (suc j) a b in omega (arith, at)),
)

-- there are as many values as names
pub count_is : {V : Type 0} (ns : List GoalName) (vs : List V) (places : finite.FinMap goal_cmp ℕ) → ArePlaces ns (length vs) places → finite.len (values_by ns vs) ≡ length ns
count_is ns vs places h =
    let each = distinct ns (λ q i j a b. one_value i j (sym ((h.2 q i).1 a) ∙ (h.2 q j).1 b)) in
    count_of_entries (zip ns vs) (subst (IsDistinct same) (sym (keys_are ns vs h.0)) each) ∙ sym (length-keys_of (zip ns vs)) ∙ ap length (keys_are ns vs h.0)
