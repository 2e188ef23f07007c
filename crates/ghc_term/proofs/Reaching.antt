-- Variables that reach none but each other, and the walks that add to them.
use Rattle.ghc_term.proofs.Words.{◌≡◌, ◌≢◌, ℕ, true, false, List, [], ◌∷◌, ◌++◌, refl, sym, ap, ◌∙◌, subst, inl, inr, ◌⊎◌, append-nil, Option, Some, None, is_some, IfNone, eq_by_cmp, eq_by_cmp_equiv, option_or, VarName, Tree, variable, node, trees, Occurs, In, Reaches, here, through, name_cmp, AreKnown, AreKnownBut, StoreValue, value_at, with_binds, Sees, value_list}
use Rattle.ghc_term.specs.inner.Walking.{StandsIn, Walking}
use Rattle.std.specs.FinMap as finite
use Rattle.ghc_term.proofs.BindingLists.{entry_of}
use Rattle.ghc_term.proofs.ListsLemmas.{in_left, in_right, in_more}
use Rattle.ghc_term.proofs.MapsLemmas.{key_in}
use Rattle.ghc_term.proofs.Names.{name_total, same_name}
use Rattle.ghc_term.proofs.WithBinds.{bound_at}
use Rattle.ghc_term.proofs.Searching.{stands_right, give_way, occurs_among, value_in_list}

-- what a variable of a tree reaches, the tree reaches
pub reaches_in : {S : VarName → Option Tree} {t : Tree} {x y : VarName} → Occurs y t → Reaches S (variable y) x → Reaches S t x
reaches_in {t = t} o (here e) = here (subst (λ z. Occurs z t) (sym e) o)
reaches_in {S = S} {t = t} o (through {u = u} {y = y} e b r) = through (subst (λ z. Occurs z t) (sym e) o) b r

module _ {S : VarName → Option Tree} where
  -- what known variables reach is known
  known_reached : (xs : List VarName) → AreKnown S xs → {t : Tree} → ((y : VarName) → Occurs y t → In y xs) → {x : VarName} → Reaches S t x → In x xs
  known_reached xs k all {x = x} (here o) = all x o
  known_reached xs k all (through {u = u} {y = y} o e r) = known_reached xs k (λ z q. k y (all y o) u e z q) r

  pub known_apart : (xs : List VarName) (y x : VarName) → AreKnown S xs → In y xs → ¬ In x xs → ¬ Reaches S (variable y) x
  known_apart xs y x k i n r = n (known_reached xs k (λ z o. subst (λ w. In w xs) (sym o) i) r)

  -- with a variable that is not among them
  pub without : (xs : List VarName) (x : VarName) → AreKnownBut S x xs → ¬ In x xs → AreKnown S xs
  without xs x k n z i = k z i (λ e. n (subst (λ w. In w xs) e i))

-- what holds where no place is found
pub not_there : {P : Type 0} (o : Option ℕ) → is_some o ≡ false → IfNone o P → P
not_there None e p = p
not_there (Some i) e p = cc

-- variables stay known where others are bound, or but one of them
pub stay_known : (s s' m : StoreValue) (es : List (VarName × Tree)) (x : VarName) (known known' : List VarName) → AreKnown (value_at s) known → known' ≡ known → finite.from_entries es ≡ m
    → ((e : VarName × Tree) → In e es → e.0 ≢ x → ¬ In e.0 known') → s' ≡ with_binds (finite.entries m) s → AreKnownBut (value_at s') x known'
stay_known s s' m es x known known' k same all others after z i n t e y o =
    let bound : option_or (value_at m z) (value_at s z) ≡ Some t = sym (bound_at m s z) ∙ ap (λ f. value_at f z) (sym after) ∙ e in
    elim (value_at m z) as (λ v. value_at m z ≡ v → option_or v (value_at s z) ≡ Some t → In y known') [
      | None ↦ λ p q. subst (In y) (sym same) (k z (subst (In z) same i) t q y o)
      | Some u ↦ λ p q.
          let found = ap is_some (sym (finite.get-from_entries name_total es z) ∙ ap (λ f. value_at f z) all ∙ p) in
          let entry = entry_of es z (key_in es z found) in
          absurd (others entry.0 entry.1 (λ r. n (sym entry.2 ∙ r)) (subst (λ w. In w known') (sym entry.2) i))
    ] refl bound

-- a walk through values
module _ {T : VarName → Option Tree} where
  -- the walk begins at the value of a variable
  pub begun : (x : VarName) (known : List VarName) (before open_ones : List Tree) → AreKnownBut T x known → open_ones ≡ before ++ value_list (T x) → Walking T known open_ones
  begun x known before open_ones k d z i u e y o =
      elim (eq_by_cmp name_cmp z x) as (λ b. eq_by_cmp name_cmp z x ≡ b → In y known ⊎ StandsIn y open_ones) [
        | true ↦ λ p. inr (subst (StandsIn y) (sym d) (stands_right before (value_list (T x)) y (u, value_in_list (T x) u (ap T (sym (same_name z x p)) ∙ e), o)))
        | false ↦ λ p. inl (k z i (λ same. let clash : true ≡ false = sym ((eq_by_cmp_equiv name_total).refl z) ∙ ap (eq_by_cmp name_cmp z) same ∙ p in cc) u e y o)
      ] refl

  -- a tree is taken from the end of the open ones, and others come in its place
  replaced : (known : List VarName) (rest new : List Tree) (t : Tree) → Walking T known (rest ++ t ∷ []) → ((y : VarName) → Occurs y t → In y known ⊎ StandsIn y new) → Walking T known (rest ++ new)
  replaced known rest new t w all x i u e y o = give_way {A = λ z. In z known} rest new t (λ z a. a) all y (w x i u e y o)

  -- nothing that is not known stands in the tree
  pub passed : (known : List VarName) (all rest : List Tree) (t : Tree) → all ≡ rest ++ t ∷ [] → Walking T known all → ((y : VarName) → Occurs y t → In y known) → Walking T known rest
  passed known all rest t e w h = subst (Walking T known) (append-nil rest) (replaced known rest [] t (subst (Walking T known) e w) (λ y o. inl (h y o)))

  -- a structure gives way to its arguments
  pub unfolds : (known : List VarName) (all rest after ts : List Tree) (f : _) (t : Tree) → node f (trees ts) ≡ t → all ≡ rest ++ t ∷ [] → after ≡ rest ++ ts → Walking T known all → Walking T known after
  unfolds known all rest after ts f t is e g w =
      subst (Walking T known) (sym g) (replaced known rest ts t (subst (Walking T known) e w) (λ y o. inr (occurs_among ts y (subst (Occurs y) (sym is) o))))

  -- a variable is known, and its value, if there is one, comes in its place
  met : (known : List VarName) (rest : List Tree) (x : VarName) → Walking T known (rest ++ variable x ∷ []) → Walking T (known ++ x ∷ []) (rest ++ value_list (T x))
  met known rest x w z i u e y o = elim (in_more known x z i) [
    | inl j ↦ give_way rest (value_list (T x)) (variable x) (λ v k. in_left known (x ∷ []) v k) (λ v b. inl (in_right known (x ∷ []) v (inl b))) y (w z j u e y o)
    | inr same ↦ inr (stands_right rest (value_list (T x)) y (u, value_in_list (T x) u (ap T (sym same) ∙ e), o))
  ]

  pub sees : (known known' : List VarName) (all rest after : List Tree) (x : VarName) (t : Tree) → variable x ≡ t → all ≡ rest ++ t ∷ [] → Walking T known all → Sees T x known known' rest after → Walking T known' after
  sees known known' all rest after x t is e w d =
      let w' : Walking T known (rest ++ variable x ∷ []) = subst (λ z. Walking T known (rest ++ z ∷ [])) (sym is) (subst (Walking T known) e w) in
      elim d [
        | inl p ↦ subst (λ z. Walking T z after) (sym p.1) (subst (Walking T known) (sym p.2) (passed known _ rest (variable x) refl w' (λ y o. subst (λ z. In z known) (sym o) p.0)))
        | inr p ↦ subst (λ z. Walking T z after) (sym p.0) (subst (Walking T (known ++ x ∷ [])) (sym p.1) (met known rest x w'))
      ]

  -- nothing is open any more
  pub finished : (known : List VarName) → Walking T known [] → AreKnown T known
  finished known w x i u e y o = elim (w x i u e y o) [ inl j ↦ j | inr s ↦ absurd s.1 ]
