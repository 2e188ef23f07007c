-- Maps in the order of insertion, and the lists of their entries.
use Rattle.ghc_term.proofs.Words.{◌≡◌, ◌+◌, Bool, false, cond, List, [], ◌∷◌, length, refl, sym, ap, ◌∙◌, arith, is_some, AllByRecursion, keys_of, None, Some, None, Result, Ok, Err, IsOk, OnOk, Ordering, lookup, eq_by_cmp, IsTotalOrder, eq_by_cmp_equiv, IsAntisymmetric}
use Rattle.std.specs.List.{IsDistinct}
use Rattle.std.specs.FinMap as finite

-- what holds on success holds where it is known
pub done : {A E P : Type 0} (r : Result A E) → IsOk r → OnOk r P → P
done (Ok a) o h = h
done (Err e) o h = cc

module _ {K X : Type 0} {R : K → K → Ordering} (o : IsTotalOrder R) (alike : IsAntisymmetric R) (same : K → K → Bool) (same_is : (x y : K) → same x y ≡ eq_by_cmp R x y) where
  found : (q : K) (es : List (K × X)) → lookup (same q) es ≡ finite.find R q es
  found q [] = refl
  found q (e ∷ es) = rw (same_is q e.0) (ap (cond (eq_by_cmp R q e.0) (Some e.1)) (found q es))

  pub value_is : (q : K) (es : List (K × X)) → lookup (same q) es ≡ finite.get (finite.from_entries {R = R} es) q
  value_is q es = found q es ∙ sym (finite.get-from_entries o es q)

  pub inserted : (es new : List (K × X)) (k : K) (v : X) → ((q : K) → lookup (same q) new ≡ cond (same k q) (Some v) (lookup (same q) es)) → finite.from_entries new ≡ finite.insert (finite.from_entries {R = R} es) k v
  inserted es new k v h = finite.same_map o alike _ _ (λ q.
      sym (value_is q new) ∙ h q ∙ ap (λ b. cond b (Some v) (lookup (same q) es)) (same_is k q ∙ (eq_by_cmp_equiv o).symm k q) ∙ ap (cond (eq_by_cmp R q k) (Some v)) (value_is q es)
      ∙ sym (finite.get-insert o (finite.from_entries es) k v q))

  pub removed : (es new : List (K × X)) (k : K) → ((q : K) → lookup (same q) new ≡ cond (same k q) None (lookup (same q) es)) → finite.from_entries new ≡ finite.remove (finite.from_entries {R = R} es) k
  removed es new k h = finite.same_map o alike _ _ (λ q.
      sym (value_is q new) ∙ h q ∙ ap (λ b. cond b None (lookup (same q) es)) (same_is k q ∙ (eq_by_cmp_equiv o).symm k q) ∙ ap (cond (eq_by_cmp R q k) None) (value_is q es)
      ∙ sym (finite.get-remove o (finite.from_entries es) k q))

  not_found : (k : K) (es : List (K × X)) → AllByRecursion (λ y. same k y ≡ false) (keys_of es) → lookup (same k) es ≡ None
  not_found k [] a = refl
  not_found k (e ∷ es) a = ap (λ b. cond b (Some e.1) (lookup (same k) es)) a.0 ∙ not_found k es a.1

  -- entries of different keys are as many as the map is large
  pub counted : (es : List (K × X)) → IsDistinct same (keys_of es) → finite.len (finite.from_entries {R = R} es) ≡ length es
  unfolding IsDistinct
  counted [] d = finite.len-empty R X
  counted (e ∷ es) d =
      let m = finite.from_entries {R = R} es in
      let absent : finite.get m e.0 ≡ None = sym (value_is e.0 es) ∙ not_found e.0 es d.0 in
      let grown = finite.len-insert o m e.0 e.1 ∙ ap (λ u. cond (is_some u) (finite.len m) (finite.len m + 1)) absent in
      omega (arith, grown, counted es d.1)
