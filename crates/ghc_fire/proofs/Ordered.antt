-- Maps in the order of their keys, and the lists of their entries.
use Rattle.ghc_fire.proofs.Words.{◌≡◌, true, cond, ◌&&◌, List, [], ◌∷◌, refl, sym, ap, subst, ◌∙◌, Option, Some, None, T, Ordering, Less, lookup, keys_of, AllByRecursion, eq_by_cmp, is_eq, is_lt, IsTotalOrder, IsAntisymmetric, below_all, is_sorted}
use Rattle.std.specs.List.Sorted.{IsStrictlySortedBy}
use Rattle.std.specs.FinMap as finite
use Rattle.ghc_term.proofs.Indexed as indexed

-- the value at q in a list of entries
abbrev pub value_in : {K X : Type 0} → (K → K → Ordering) → K → List (K × X) → Option X
value_in R q es = lookup (λ k. is_eq (R q k)) es

module _ {K X : Type 0} {R : K → K → Ordering} (o : IsTotalOrder R) (alike : IsAntisymmetric R) where
  pub value_is : (q : K) (es : List (K × X)) → value_in R q es ≡ finite.get (finite.from_entries {R = R} es) q
  value_is q es = indexed.value_is o alike (eq_by_cmp R) (λ x y. refl) q es

  pub inserted : (es new : List (K × X)) (k : K) (v : X) → ((q : K) → value_in R q new ≡ cond (is_eq (R k q)) (Some v) (value_in R q es)) → finite.from_entries new ≡ finite.insert (finite.from_entries {R = R} es) k v
  inserted es new k v h = indexed.inserted o alike (eq_by_cmp R) (λ x y. refl) es new k v h

  pub removed : (es new : List (K × X)) (k : K) → ((q : K) → value_in R q new ≡ cond (is_eq (R k q)) None (value_in R q es)) → finite.from_entries new ≡ finite.remove (finite.from_entries {R = R} es) k
  removed es new k h = indexed.removed o alike (eq_by_cmp R) (λ x y. refl) es new k h

  below : (k : K) (es : List (K × X)) → AllByRecursion (λ y. R k y ≡ Less) (keys_of es) → below_all R k es ≡ true
  below k [] h = refl
  below k (e ∷ es) h = λ i. is_lt (h.0 i) && below k es h.1 i

  rising : (es : List (K × X)) → IsStrictlySortedBy R (keys_of es) → is_sorted R es ≡ true
  unfolding IsStrictlySortedBy
  rising [] h = refl
  rising (e ∷ es) h = λ i. below e.0 es h.0 i && rising es h.1 i

  pub entries_are : (es : List (K × X)) → IsStrictlySortedBy R (keys_of es) → finite.entries (finite.from_entries {R = R} es) ≡ es
  entries_are es h =
      let sorted : T (is_sorted R es) = subst T (sym (rising es h)) tt in
      ap finite.entries (finite.same_map o alike (finite.from_entries es) (finite.from_sorted es) (λ q. finite.get-from_entries o es q ∙ sym (finite.get-from_sorted R es q sorted)))
      ∙ finite.entries-from_sorted R es sorted
