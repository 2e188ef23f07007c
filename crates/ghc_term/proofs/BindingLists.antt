-- Lists of bindings of distinct variables.
use Rattle.ghc_term.proofs.Words.{◌≡◌, ◌≢◌, ℕ, zero, suc, ◌+◌, ◌<◌, true, false, cond, List, [], ◌∷◌, ◌++◌, length, get_or, drop, take, slice_get, slice_set, Some, None, is_some, All, inl, inr, refl, sym, ap, ◌∙◌, subst, AllByRecursion, keys_of, lookup, eq_by_cmp, eq_by_cmp_equiv, drop_more, map-append, take-map, get_or-map, All-contains, lookup_from_place, length-keys_of, VarName, name_cmp, Entries, AreOnce, map_of, In, value_at, Tree, AreDifferent, is_same}
use Rattle.std.specs.List.{IsDistinct}
use Rattle.std.specs.FinMap as finite
use Rattle.ghc_term.proofs.Entries.{lookup_at, inserted, same_is}
use Rattle.ghc_term.proofs.ListsLemmas.{in_contains}
use Rattle.ghc_term.proofs.MapsLemmas.{key_in}
use Rattle.ghc_term.proofs.Names.{name_total, name_antisymmetric}
use Rattle.ghc_term.proofs.VariableLists as names
use Rattle.ghc_term.proofs.VariableLists.{equivalence, one_more}

at : (P : VarName → Type 0) (ks : List VarName) (i : ℕ) (x : VarName) → AllByRecursion P ks → slice_get ks i ≡ Some x → P x
at P [] i x a e = cc
at P (k ∷ ks) zero x a e = let same : k ≡ x = cc in subst P same a.0
at P (k ∷ ks) (suc i) x a e = at P ks i x a.1 e

-- what stands under the name at a place
pub value_there : (es : List (VarName × Tree)) (i : ℕ) (p : VarName × Tree) → AreDifferent (keys_of es) → slice_get es i ≡ Some p → value_at (finite.from_entries es) p.0 ≡ Some p.1
value_there es i p d e = sym (lookup_at p.0 es) ∙ lookup_from_place equivalence es i p.0 p.1 d e

pub entry_there : (es : List (VarName × Tree)) (i : ℕ) (x : VarName) (d : VarName × Tree) → slice_get (keys_of es) i ≡ Some x → (slice_get es i ≡ Some (get_or es i d)) × ((get_or es i d).0 ≡ x)
entry_there [] i x d e = cc
entry_there (b ∷ es) zero x d e = let same : b.0 ≡ x = cc in (refl, same)
entry_there (b ∷ es) (suc i) x d e = entry_there es i x d e

-- a name that is not there has no value
pub no_value : (es : List (VarName × Tree)) (x : VarName) → ¬ In x (keys_of es) → finite.find name_cmp x es ≡ None
no_value es x n =
    elim (finite.find name_cmp x es) as (λ o. finite.find name_cmp x es ≡ o → o ≡ None) [
      | None ↦ λ e. refl
      | Some t ↦ λ e. absurd (n (key_in es x (ap is_some e)))
    ] refl

-- a name without a value is not there
pub not_there : (es : Entries) (x : VarName) → finite.find name_cmp x es ≡ None → ¬ In x (keys_of es)
not_there [] x n i = absurd i
not_there (b ∷ es) x n i =
    let rest = finite.find name_cmp x es in
    elim (eq_by_cmp name_cmp x b.0) as (λ c. eq_by_cmp name_cmp x b.0 ≡ c → ⊥) [
      | true ↦ λ p. let clash : Some b.1 ≡ None = ap (λ c. cond c (Some b.1) rest) (sym p) ∙ n in cc
      | false ↦ λ p. elim i [
        | inl s ↦ let clash : true ≡ false = sym ((eq_by_cmp_equiv name_total).refl x) ∙ ap (eq_by_cmp name_cmp x) s ∙ p in cc
        | inr j ↦ not_there es x (ap (λ c. cond c (Some b.1) rest) (sym p) ∙ n) j
      ]
    ] refl

-- the entry at a place is changed
pub same_keys : (es : List (VarName × Tree)) (i : ℕ) (x : VarName) (v : Tree) → slice_get (keys_of es) i ≡ Some x → keys_of (slice_set es i (x, v)) ≡ keys_of es
same_keys [] i x v e = cc
same_keys (b ∷ es) zero x v e = let same : b.0 ≡ x = cc in ap (λ k. k ∷ keys_of es) (sym same)
same_keys (b ∷ es) (suc i) x v e = ap (λ ks. b.0 ∷ ks) (same_keys es i x v e)

found_changed : (es : List (VarName × Tree)) (i : ℕ) (x : VarName) (v : Tree) → AreDifferent (keys_of es) → slice_get (keys_of es) i ≡ Some x
    → (q : VarName) → lookup (is_same q) (slice_set es i (x, v)) ≡ cond (is_same x q) (Some v) (lookup (is_same q) es)
unfolding IsDistinct
found_changed [] i x v d e q = cc
found_changed (b ∷ es) zero x v d e q =
    let same : b.0 ≡ x = cc in
    let here : is_same q b.0 ≡ is_same x q = ap (is_same q) same ∙ equivalence.symm q x in
    let rest = lookup (is_same q) es in
    ap (λ c. cond c (Some v) rest) (equivalence.symm q x)
    ∙ (elim (is_same x q) as (λ c. cond c (Some v) rest ≡ cond c (Some v) (cond c (Some b.1) rest)) [ true ↦ refl | false ↦ refl ])
    ∙ ap (λ c. cond (is_same x q) (Some v) (cond c (Some b.1) rest)) (sym here)
found_changed (b ∷ es) (suc i) x v d e q =
    let other : is_same b.0 x ≡ false = at (λ y. is_same b.0 y ≡ false) (keys_of es) i x d.0 e in
    let rest = lookup (is_same q) es in
    ap (cond (is_same q b.0) (Some b.1)) (found_changed es i x v d.1 e q)
    ∙ elim (is_same q b.0) as (λ c. is_same q b.0 ≡ c → cond c (Some b.1) (cond (is_same x q) (Some v) rest) ≡ cond (is_same x q) (Some v) (cond c (Some b.1) rest)) [
      | true ↦ λ p.
          let differs : is_same x q ≡ false = equivalence.symm x q ∙ equivalence.congr q b.0 x p ∙ other in
          ap (λ c. cond c (Some v) (Some b.1)) (sym differs)
      | false ↦ λ p. refl
    ] refl

pub changed : (es : List (VarName × Tree)) (i : ℕ) (x : VarName) (v : Tree) → AreDifferent (keys_of es) → slice_get (keys_of es) i ≡ Some x → finite.from_entries (slice_set es i (x, v)) ≡ finite.insert (finite.from_entries {R = name_cmp} es) x v
changed es i x v d e = inserted es (slice_set es i (x, v)) x v (found_changed es i x v d e)

pub still_once : (es : Entries) (i : ℕ) (x : VarName) (v : Tree) → AreOnce es → slice_get (keys_of es) i ≡ Some x → AreOnce (slice_set es i (x, v))
still_once es i x v d e = subst AreDifferent (sym (same_keys es i x v e)) d

-- an entry more
pub once_more : (es new : Entries) (x : VarName) (v : Tree) → AreOnce es → ¬ In x (keys_of es) → new ≡ es ++ (x, v) ∷ [] → AreOnce new
once_more es new x v d n e = one_more (keys_of es) (keys_of new) x d n (ap keys_of e ∙ map-append (λ (b : VarName × Tree). b.0) es ((x, v) ∷ []))

pub added : (es new : Entries) (x : VarName) (v : Tree) → ¬ In x (keys_of es) → new ≡ es ++ (x, v) ∷ [] → map_of new ≡ finite.insert (map_of es) x v
added es new x v n e = ap map_of e ∙ finite.from_entries_push name_total name_antisymmetric es x v (no_value es x n)

-- what no test finds is not there
pub entry_of : (es : Entries) (x : VarName) → In x (keys_of es) → (e : VarName × Tree) × In e es × (e.0 ≡ x)
entry_of [] x i = absurd i
entry_of (e ∷ es) x (inl s) = (e, inl refl, sym s)
entry_of (e ∷ es) x (inr i) = let r = entry_of es x i in (r.0, inr r.1, r.2)

pub no_key : (es : Entries) (x : VarName) → All (λ (e : VarName × Tree). e.0 ≢ x) es → ¬ In x (keys_of es)
no_key es x a i = let r = entry_of es x i in All-contains (λ (e : VarName × Tree). e.0 ≢ x) es r.0 a (in_contains es r.0 r.1) r.2

-- a search comes to the next entry
pub next : (es : Entries) (i : ℕ) (e : VarName × Tree) (x : VarName) → i < length es → e ≡ get_or es i e → finite.find name_cmp x es ≡ finite.find name_cmp x (drop i es)
    → finite.find name_cmp x es ≡ cond (is_same x e.0) (Some e.1) (finite.find name_cmp x (drop (i + 1) es))
next es i e x h is before =
    before ∙ ap (finite.find name_cmp x) (drop_more es i e h ∙ ap (λ u. u ∷ drop (i + 1) es) (sym is))
    ∙ ap (λ b. cond b (Some e.1) (finite.find name_cmp x (drop (i + 1) es))) (sym (same_is x e.0))

-- the name of an entry stands nowhere before
pub not_before : (es : Entries) (i : ℕ) (e : VarName × Tree) → AreOnce es → i < length es → e ≡ get_or es i e → ¬ In e.0 (keys_of (take i es))
not_before es i e d h is n =
    names.not_before (keys_of es) i e.0 d (subst (λ k. i < k) (sym (length-keys_of es)) h)
    (subst (λ x. In x (take i (keys_of es))) (ap (λ b. b.0) is ∙ sym (get_or-map (λ (b : VarName × Tree). b.0) es i e e.0 h)) (subst (In e.0) (sym (take-map (λ (b : VarName × Tree). b.0) i es)) n))
