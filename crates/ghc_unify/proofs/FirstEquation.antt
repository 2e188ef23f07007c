-- The move on the first equation, from the chains of its sides.
use Rattle.ghc_unify.proofs.Words.{◌≡◌, ◌≢◌, true, false, Bool, List, [], ◌∷◌, ◌++◌, refl, sym, ap, ◌∙◌, subst, inl, inr, append-nil, Option, None, VarName, Tree, variable, IsValue, In, Leads, Passes, Reaches, with_binding, Meets, met, Move, shared, left, right, both, IsClash, IsCycle, Parts, StoreValue, with_bindings, unbound_below}
use Rattle.ghc_unify.proofs.Ends.{left_end}
use Rattle.ghc_unify.proofs.Growth.{met_unbound}
use Rattle.ghc_unify.proofs.Partings.{cut, parted, on_chain, passes_in}

first_of_list : (c : List VarName) → c ≢ [] → (m : VarName) × (rest : List VarName) × (c ≡ m ∷ rest)
first_of_list [] n = absurd (n refl)
first_of_list (m ∷ c) n = (m, c, refl)

-- chains that share nothing are whole
pub record Apart (T : VarName → Option Tree) (l r e f : Tree) (a b : List VarName) : Type 0 where
  pub left : Leads T l a e
  pub right : Leads T r b f
  pub parts : (x : VarName) → In x a → ¬ Passes T r x

-- from the chains of two sides, and what is left of them without their common end
module _ {T : VarName → Option Tree} {l r e f : Tree} {a b : List VarName} {shares : Bool}
    (s : (xs ys : List VarName) × Leads T l xs e × Leads T r ys f × Parts xs ys a b shares) where
  pub apart : shares ≡ false → Apart T l r e f a b
  apart n = record {
    left = subst (λ z. Leads T l z e) (s.4.left ∙ ap (λ c. a ++ c) (s.4.none n) ∙ append-nil a) s.2;
    right = subst (λ z. Leads T r z f) (s.4.right ∙ ap (λ c. b ++ c) (s.4.none n) ∙ append-nil b) s.3;
    parts = parted shares s.2 s.3 s.4;
  }

  pub shared_move : {S : VarName → Option Tree} {es : List (Tree × Tree)} → shares ≡ true → Move S T ((l, r) ∷ es) T es [] (met S a ++ met S b)
  shared_move t =
      let m = first_of_list s.4.common (s.4.some t) in
      let one = cut a m.0 m.1 s.2 (s.4.left ∙ ap (λ c. a ++ c) m.2) in
      let two = cut b m.0 m.1 s.3 (s.4.right ∙ ap (λ c. b ++ c) m.2) in
      shared one.0 two.0 (parted shares s.2 s.3 s.4)

module _ (S : VarName → Option Tree) (binds : StoreValue) {l r e f : Tree} {a b : List VarName} (w : Apart (with_bindings binds S) l r e f a b) where
  abbrev T : VarName → Option Tree
  T = with_bindings binds S

  read_end : {c : List VarName} (d : List VarName) (x : VarName) → c ≡ d ++ x ∷ [] → T x ≡ None → met S d ≡ met S c
  read_end d x e n = sym (ap (met S) e ∙ met_unbound S d x (unbound_below binds S x n).1)

  pub left_move : {es : List (Tree × Tree)} {x : VarName} {d : VarName × Tree} → variable x ≡ e → d ≡ (x, r) → ¬ Reaches T r x
      → Move S T ((l, r) ∷ es) (with_binding T d.0 d.1) es (d ∷ []) (met S a)
  left_move is q o =
      let u = left_end (subst (Leads T l a) (sym is) w.left) in
      rw (q, ← read_end u.0 _ u.1 u.3) (left u.2 u.3 o)

  pub left_cycle : {x : VarName} → variable x ≡ e → Reaches T r x → IsCycle T l r
  left_cycle {x = x} is o =
      let u = left_end (subst (Leads T l a) (sym is) w.left) in
      inl (u.0, x, u.2, u.3, w.parts x (on_chain w.left u.2), o)

  pub right_move : {es : List (Tree × Tree)} {y : VarName} {d : VarName × Tree} → IsValue e → variable y ≡ f → d ≡ (y, l) → ¬ Reaches T l y
      → Move S T ((l, r) ∷ es) (with_binding T d.0 d.1) es (d ∷ []) (met S a ++ met S b)
  right_move v is q o =
      let u = left_end (subst (Leads T r b) (sym is) w.right) in
      rw (q, ← read_end u.0 _ u.1 u.3) (right w.left v u.2 u.3 o)

  pub right_cycle : {y : VarName} → IsValue e → variable y ≡ f → Reaches T l y → IsCycle T l r
  right_cycle {y = y} v is o =
      let u = left_end (subst (Leads T r b) (sym is) w.right) in
      inr (a, u.0, e, y, w.left, v, u.2, u.3, o)

  pub both_move : {es fs new : List (Tree × Tree)} → Meets e f new → fs ≡ new ++ es → Move S T ((l, r) ∷ es) T fs [] (met S a ++ met S b)
  both_move m q = rw q (both w.left w.right (λ x i j. w.parts x i (passes_in w.right j)) m)

  pub both_clash : IsValue e → IsValue f → ((new : List (Tree × Tree)) → ¬ Meets e f new) → IsClash T l r
  both_clash v v' n = (a, b, e, f, w.left, w.right, v, v', λ x i j. w.parts x i (passes_in w.right j), n)
