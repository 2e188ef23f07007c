-- Pairs of variables that are noted in a table.
use Rattle.ghc_unify.proofs.Words.{◌≡◌, Bool, true, false, cond, ◌&&◌, not, List, [], ◌∷◌, ◌++◌, refl, sym, ap, ◌∙◌, inl, inr, ◌⊎◌, nat_eq, list_any, VarName, Tree, variable, same_name, In, In_either, contains_in, Contains-from_any, names_tie}
use Rattle.ghc_unify.specs.inner.Met.{IsPairOf, IsNoted}

-- the test of pairs
abbrev pub same_pair : VarName × VarName → VarName × VarName → Bool
same_pair p q = (nat_eq p.0.step q.0.step && nat_eq p.0.place q.0.place) && (nat_eq p.1.step q.1.step && nat_eq p.1.place q.1.place)

and_both : (b c : Bool) → (b && c) ≡ true → (b ≡ true) × (c ≡ true)
and_both true true e = (refl, refl)
and_both true false e = cc
and_both false c e = cc

one_pair : (p q : VarName × VarName) → p.0 ≡ q.0 → p.1 ≡ q.1 → p ≡ q
one_pair p q a b = ap (λ z. (z, p.1)) a ∙ ap (λ z. (q.0, z)) b

pub same_pair_is : (p q : VarName × VarName) → same_pair p q ≡ true → p ≡ q
same_pair_is p q e =
    let b = and_both (nat_eq p.0.step q.0.step && nat_eq p.0.place q.0.place) (nat_eq p.1.step q.1.step && nat_eq p.1.place q.1.place) e in
    one_pair p q (same_name p.0 q.0 (sym (names_tie p.0 q.0) ∙ b.0)) (same_name p.1 q.1 (sym (names_tie p.1 q.1) ∙ b.1))

not_new : (b new : Bool) → new ≡ not b → not new ≡ true → b ≡ true
not_new true new e n = refl
not_new false new e n = let clash : not true ≡ true = ap not (sym e) ∙ n in cc

-- a pair of the new table
put_in : (b : Bool) (ps : List (VarName × VarName)) (p q : VarName × VarName) → In q (cond b ps (ps ++ p ∷ [])) → In q ps ⊎ (q ≡ p)
put_in true ps p q i = inl i
put_in false ps p q i = elim (In_either ps (p ∷ []) q i) [ inl j ↦ inl j | inr j ↦ elim j [ inl e ↦ inr e | inr n ↦ absurd n ] ]

module _ {l r : Tree} (p : VarName × VarName) (a : l ≡ variable p.0) (b : r ≡ variable p.1) where
  pub noted : (ps new : List (VarName × VarName)) → new ≡ cond (list_any (same_pair p) ps) ps (ps ++ p ∷ []) → IsNoted l r ps new
  noted ps new e q i = elim (put_in (list_any (same_pair p) ps) ps p q (rw e at i)) [
    | inl j ↦ inl j
    | inr s ↦ inr (a ∙ ap (λ z. variable z.0) (sym s), b ∙ ap (λ z. variable z.1) (sym s))
  ]

  pub noted_before : (ps : List (VarName × VarName)) (new : Bool) → new ≡ not (list_any (same_pair p) ps) → not new ≡ true → IsPairOf l r ps
  noted_before ps new e n = (p, contains_in ps p (Contains-from_any same_pair_is p ps (not_new (list_any (same_pair p) ps) new e n)), (a, b))
