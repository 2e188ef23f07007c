-- Bindings that are put into a map one after another.
use Rattle.ghc_records.proofs.Words.{◌≡◌, ◌+◌, ◌≤◌, Bool, true, false, cond, List, [], ◌∷◌, length, refl, sym, ap, ◌∙◌, subst, arith, Option, Some, None, is_some, IsStrictlySortedBy, keys_of, keys_of-map_values, eq_by_cmp, is_eq, VarName, name_cmp, StoreValue, Tree, name_total, name_antisymmetric, same_name, one_put, shown_by, value_in, entries_are}
use Rattle.std.specs.FinMap as finite

-- no two of the bindings are of one variable
abbrev Apart : List (VarName × Tree) → Type 0
Apart [] = Unit {0}
Apart (b ∷ bs) = (finite.find name_cmp b.0 bs ≡ None) × Apart bs

-- the map, with these bindings put in one after another
abbrev pub poured : StoreValue → List (VarName × Tree) → StoreValue
poured m [] = m
poured m (b ∷ bs) = poured (finite.insert m b.0 b.1) bs

-- one more binding makes the map one larger, or leaves it as large
grown : (m : StoreValue) (b : VarName × Tree) (o : Option Tree) → finite.get m b.0 ≡ o → finite.len (finite.insert m b.0 b.1) ≡ cond (is_some o) (finite.len m) (finite.len m + 1)
grown m b o e = finite.len-insert name_total m b.0 b.1 ∙ ap (λ p. cond (is_some p) (finite.len m) (finite.len m + 1)) e

at_most : (es : List (VarName × Tree)) → finite.len (finite.from_entries {R = name_cmp} es) ≤ length es
at_most [] = omega (arith, finite.len-empty name_cmp Tree)
at_most (b ∷ bs) =
    let m = finite.from_entries {R = name_cmp} bs in
    elim (finite.get m b.0) as (λ o. finite.get m b.0 ≡ o → finite.len (finite.insert m b.0 b.1) ≤ length (b ∷ bs)) [
      | Some t ↦ λ e. omega (arith, at_most bs, grown m b (Some t) e)
      | None ↦ λ e. omega (arith, at_most bs, grown m b None e)
    ] refl

apart : (es : List (VarName × Tree)) → length es ≡ finite.len (finite.from_entries {R = name_cmp} es) → Apart es
apart [] e = tt
apart (b ∷ bs) e =
    let m = finite.from_entries {R = name_cmp} bs in
    elim (finite.get m b.0) as (λ o. finite.get m b.0 ≡ o → Apart (b ∷ bs)) [
      | Some t ↦ λ p. absurd (omega (arith, e, at_most bs, grown m b (Some t) p))
      | None ↦ λ p. (sym (finite.get-from_entries name_total bs b.0) ∙ p, apart bs (omega (arith, e, grown m b None p)))
    ] refl

either : (a b : Bool) (x y z : Option Tree) → (a ≡ true → b ≡ true → ⊥) → cond a x (cond b y z) ≡ cond b y (cond a x z)
either true true x y z h = absurd (h refl refl)
either true false x y z h = refl
either false b x y z h = refl

exchanged : (m : StoreValue) (b c : VarName × Tree) → eq_by_cmp name_cmp b.0 c.0 ≡ false
    → finite.insert (finite.insert m b.0 b.1) c.0 c.1 ≡ finite.insert (finite.insert m c.0 c.1) b.0 b.1
exchanged m b c e = finite.same_map name_total name_antisymmetric _ _ (λ q.
    finite.get-insert name_total (finite.insert m b.0 b.1) c.0 c.1 q ∙ ap (cond (eq_by_cmp name_cmp q c.0) (Some c.1)) (finite.get-insert name_total m b.0 b.1 q)
    ∙ either (eq_by_cmp name_cmp q c.0) (eq_by_cmp name_cmp q b.0) (Some c.1) (Some b.1) (finite.get m q) (λ x y.
    let here : eq_by_cmp name_cmp b.0 c.0 ≡ true = ap (λ n. eq_by_cmp name_cmp n c.0) (sym (same_name q b.0 y)) ∙ x in
    let clash : true ≡ false = sym here ∙ e in cc)
    ∙ sym (finite.get-insert name_total (finite.insert m c.0 c.1) b.0 b.1 q ∙ ap (cond (eq_by_cmp name_cmp q b.0) (Some b.1)) (finite.get-insert name_total m c.0 c.1 q)))

none_there : (b : Bool) (t : Tree) (o : Option Tree) → cond b (Some t) o ≡ None → (b ≡ false) × (o ≡ None)
none_there true t o e = let clash : Some t ≡ None = e in cc
none_there false t o e = (refl, e)

poured_late : (m : StoreValue) (b : VarName × Tree) (bs : List (VarName × Tree)) → finite.find name_cmp b.0 bs ≡ None → poured (finite.insert m b.0 b.1) bs ≡ finite.insert (poured m bs) b.0 b.1
poured_late m b [] e = refl
poured_late m b (c ∷ bs) e =
    let p = none_there (eq_by_cmp name_cmp b.0 c.0) c.1 (finite.find name_cmp b.0 bs) e in
    ap (λ n. poured n bs) (exchanged m b c p.0) ∙ poured_late (finite.insert m c.0 c.1) b bs p.1

poured_apart : (es : List (VarName × Tree)) → Apart es → poured finite.empty es ≡ finite.from_entries es
poured_apart [] h = refl
poured_apart (b ∷ bs) h = poured_late finite.empty b bs h.0 ∙ ap (λ m. finite.insert m b.0 b.1) (poured_apart bs h.1)

-- as many bindings as the map has, poured into the empty map, are the map
pub poured_all : (binds : StoreValue) (es : List (VarName × Tree)) → finite.from_entries es ≡ binds → length es ≡ finite.len binds → poured finite.empty es ≡ binds
poured_all binds es e n = poured_apart es (apart es (n ∙ ap finite.len (sym e))) ∙ e

module _ {X : Type 0} (shows : X → Tree) where
  -- the entries with their values shown
  abbrev pub shown : List (VarName × X) → List (VarName × Tree)
  shown es = shown_by shows es

  -- one more binding is put in
  pub poured_more : (es new : List (VarName × X)) (k : VarName) (x : X) → ((q : VarName) → value_in name_cmp q new ≡ cond (is_eq (name_cmp k q)) (Some x) (value_in name_cmp q es))
      → finite.from_entries (shown new) ≡ finite.insert (finite.from_entries {R = name_cmp} (shown es)) k (shows x)
  poured_more es new k x h = one_put name_total name_antisymmetric shows es new k x h

  -- all are put in
  pub poured_end : (binds : StoreValue) (es : List (VarName × X)) (rest : List (VarName × Tree)) → poured (finite.from_entries (shown es)) rest ≡ binds → rest ≡ []
      → IsStrictlySortedBy name_cmp (keys_of es) → shown es ≡ finite.entries binds
  poured_end binds es rest p none order =
      sym (entries_are name_total name_antisymmetric (shown es) (subst (IsStrictlySortedBy name_cmp) (sym (keys_of-map_values shows es)) order))
      ∙ ap finite.entries (ap (poured (finite.from_entries (shown es))) (sym none) ∙ p)
