-- Tables of keys, and of entries by key: the finite sets and maps that they stand for.
use Rattle.ghc_hooks.proofs.Words.{◌≡◌, ◌+◌, Bool, true, false, cond, not, ◌&&◌, ◌||◌, List, [], ◌∷◌, length, refl, sym, ap, ◌∙◌, arith, Ordering, list_any, AllByRecursion, eq_by_cmp, IsTotalOrder, eq_by_cmp_equiv, IsAntisymmetric}
use Rattle.std.specs.List.{IsDistinct}
use Rattle.std.specs.FinSet as set

by_or : (b c : Bool) → cond b true c ≡ (b || c)
by_or b c = grind arith

by_not : (b c : Bool) → cond b false c ≡ (not b && c)
by_not b c = grind arith

module _ {K : Type 0} {R : K → K → Ordering} (o : IsTotalOrder R) (alike : IsAntisymmetric R) (same : K → K → Bool) (same_is : (x y : K) → same x y ≡ eq_by_cmp R x y) where
  any_is : (q : K) (ks : List K) → list_any (same q) ks ≡ list_any (eq_by_cmp R q) ks
  any_is q [] = refl
  any_is q (k ∷ ks) = ap (λ b. b || list_any (same q) ks) (same_is q k) ∙ ap (λ b. eq_by_cmp R q k || b) (any_is q ks)

  -- whether a key is found tells whether it is in the set
  pub has_key : (q : K) (ks : List K) → list_any (same q) ks ≡ set.contains (set.from_list {R = R} ks) q
  has_key q ks = any_is q ks ∙ sym (set.contains-from_list o ks q)

  turned : (k q : K) → same k q ≡ eq_by_cmp R q k
  turned k q = same_is k q ∙ (eq_by_cmp_equiv o).symm k q

  -- a table with one key more or less
  pub key_put : (ks new : List K) (k : K) → ((q : K) → list_any (same q) new ≡ cond (same k q) true (list_any (same q) ks)) → set.from_list {R = R} new ≡ set.insert (set.from_list ks) k
  key_put ks new k h = set.same_set o alike _ _ (λ q.
      sym (has_key q new) ∙ h q ∙ by_or (same k q) (list_any (same q) ks) ∙ ap (λ b. b || list_any (same q) ks) (turned k q) ∙ ap (λ b. eq_by_cmp R q k || b) (has_key q ks)
      ∙ sym (set.contains-insert o (set.from_list ks) k q))

  pub key_taken : (ks new : List K) (k : K) → ((q : K) → list_any (same q) new ≡ cond (same k q) false (list_any (same q) ks)) → set.from_list {R = R} new ≡ set.remove (set.from_list ks) k
  key_taken ks new k h = set.same_set o alike _ _ (λ q.
      sym (has_key q new) ∙ h q ∙ by_not (same k q) (list_any (same q) ks) ∙ ap (λ b. not b && list_any (same q) ks) (turned k q) ∙ ap (λ b. not (eq_by_cmp R q k) && b) (has_key q ks)
      ∙ sym (set.contains-remove o (set.from_list ks) k q))

  -- distinct keys are as many as the table is long
  other_than : (k : K) (ks : List K) → AllByRecursion (λ y. same k y ≡ false) ks → list_any (same k) ks ≡ false
  other_than k [] a = refl
  other_than k (y ∷ ks) a = ap (λ b. b || list_any (same k) ks) a.0 ∙ other_than k ks a.1

  pub count_of_keys : (ks : List K) → IsDistinct same ks → set.len (set.from_list {R = R} ks) ≡ length ks
  unfolding IsDistinct
  count_of_keys [] d = set.len-empty R
  count_of_keys (k ∷ ks) d =
      let head : set.from_list {R = R} (k ∷ ks) ≡ set.insert (set.from_list ks) k =
      set.same_set o alike _ _ (λ q. set.contains-from_list o (k ∷ ks) q ∙ ap (λ b. eq_by_cmp R q k || b) (sym (set.contains-from_list o ks q)) ∙ sym (set.contains-insert o (set.from_list ks) k q)) in
      let absent : set.contains (set.from_list {R = R} ks) k ≡ false = sym (has_key k ks) ∙ other_than k ks d.0 in
      let grown = ap set.len head ∙ set.len-insert o (set.from_list ks) k ∙ ap (λ b. cond b (set.len (set.from_list {R = R} ks)) (set.len (set.from_list {R = R} ks) + 1)) absent in
      omega (arith, grown, count_of_keys ks d.1)
