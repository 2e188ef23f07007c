-- Entries of a list that are put into a map one after another, the last of them first.
use Rattle.ghc_records.proofs.Words.{◌≡◌, cond, List, [], ◌∷◌, ◌++◌, sym, ap, subst, ◌∙◌, append_assoc, Some, Ordering, IsStrictlySortedBy, keys_of, is_eq, IsTotalOrder, IsAntisymmetric, keys_of-map_values, one_put, shown_by, value_in, entries_are}
use Rattle.std.specs.FinMap as finite

module _ {K V X : Type 0} {R : K → K → Ordering} (o : IsTotalOrder R) (alike : IsAntisymmetric R) (shows : V → X) where
  abbrev shown : List (K × V) → List (K × X)
  shown es = shown_by shows es

  behind : (left es new : List (K × X)) → finite.from_entries {R = R} new ≡ finite.from_entries es → finite.from_entries {R = R} (left ++ new) ≡ finite.from_entries (left ++ es)
  behind [] es new e = e
  behind (b ∷ bs) es new e = ap (λ m. finite.insert m b.0 b.1) (behind bs es new e)

  -- the last of the entries left is put
  pub one_more : (whole : finite.FinMap R X) (left rest : List (K × X)) (es new : List (K × V)) (k : K) (v : V) → finite.from_entries (left ++ shown es) ≡ whole → left ≡ rest ++ (k, shows v) ∷ []
      → ((q : K) → value_in R q new ≡ cond (is_eq (R k q)) (Some v) (value_in R q es)) → finite.from_entries (rest ++ shown new) ≡ whole
  one_more whole left rest es new k v h last put =
      behind rest ((k, shows v) ∷ shown es) (shown new) (one_put o alike shows es new k v put) ∙ ap (λ l. finite.from_entries l) (sym (append_assoc rest ((k, shows v) ∷ []) (shown es)))
      ∙ ap (λ l. finite.from_entries (l ++ shown es)) (sym last) ∙ h

  -- all are put
  pub gathered : (whole : finite.FinMap R X) (left : List (K × X)) (es : List (K × V)) → finite.from_entries (left ++ shown es) ≡ whole → left ≡ [] → IsStrictlySortedBy R (keys_of es)
      → shown es ≡ finite.entries whole
  gathered whole left es h none order =
      sym (entries_are o alike (shown es) (subst (IsStrictlySortedBy R) (sym (keys_of-map_values shows es)) order)) ∙ ap finite.entries (ap (λ l. finite.from_entries (l ++ shown es)) (sym none) ∙ h)
