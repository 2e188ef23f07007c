-- What a clause finds in a call is the same in every store that agrees with its own on what the clause looks at.
use Rattle.ghc_match.proofs.Words.{◌≡◌, ℕ, List, [], ◌∷◌, refl, inl, inr, Option, Some, None, VarName, Tree, variable, node, Trees, IsValue, In, Leads, at_node, along, in_left, in_right, Test, Compare as compare, Clause, variables_of_test, leaf_variables, At, here, down, unbound, StandsFor, Mismatch, HeadWants, StandsAt, Holds, TestWants, LooksAt}
use Rattle.ghc_match.proofs.Chains.{AgreesFrom, leads_there, leads_back, passes_there, passes_back}
use Rattle.ghc_match.proofs.Values.{number_there}

-- in a head a value stands as it is written
head_value : {t : Tree} {xs : List VarName} {f : List ℕ} {us : Trees} → Leads unbound t xs (node f us) → IsValue t
head_value at_node = tt
head_value (along {t = u} p a) = let clash : None ≡ Some u = p in cc

-- the stores agree on the chains of a goal at the values of a head
abbrev AgreesAt : (VarName → Option Tree) → (VarName → Option Tree) → List Tree → List Tree → Type 0
AgreesAt S S' hs ts = (p : List ℕ) (h t : Tree) → At unbound hs p h → IsValue h → At S ts p t → AgreesFrom S S' t

at_there : {S S' : VarName → Option Tree} {hs ts : List Tree} {p : List ℕ} {h t : Tree} → At unbound hs p h → At S ts p t → AgreesAt S S' hs ts → At S' ts p t
at_there (here e) (here g) k = here g
at_there (here e) (down g l a) k = elim a [ ]
at_there (down e m b) (here g) k = elim b [ ]
at_there (down {i = i} {t = s} e m b) (down {t = r} g l a) k =
    down g (leads_there l (k (i ∷ []) s r (here e) (head_value m) (here g))) (at_there b a (λ q n u hn vn hu. k (i ∷ q) n u (down e m hn) vn (down g l hu)))

at_back : {S S' : VarName → Option Tree} {hs ts : List Tree} {p : List ℕ} {h t : Tree} → At unbound hs p h → At S' ts p t → AgreesAt S S' hs ts → At S ts p t
at_back (here e) (here g) k = here g
at_back (here e) (down g l a) k = elim a [ ]
at_back (down e m b) (here g) k = elim b [ ]
at_back (down {i = i} {t = s} e m b) (down {t = r} g l a) k =
    let was = leads_back l (k (i ∷ []) s r (here e) (head_value m) (here g)) in
    down g was (at_back b a (λ q n u hn vn hu. k (i ∷ q) n u (down e m hn) vn (down g was hu)))

module _ (c : Clause) (ts : List Tree) (S S' : VarName → Option Tree) (agree : (x : VarName) → LooksAt c ts S x → S' x ≡ S x) where
  at_head : AgreesAt S S' c.head ts
  at_head p h t ah v at x ps = agree x (inl (p, h, t, (ah, v), at, ps))

  at_test : (g : Test) (y : VarName) (t : Tree) → In g c.tests → In y (variables_of_test g) → StandsFor c ts S y t → AgreesFrom S S' t
  at_test g y t ig iy s x ps = agree x (inr (g, y, t, ig, iy, s, ps))

  pub stands_there : (y : VarName) (t : Tree) → StandsFor c ts S y t → StandsFor c ts S' y t
  stands_there y t s = (s.0, s.1, at_there s.1 s.2 at_head)

  pub stands_back : (y : VarName) (t : Tree) → StandsFor c ts S' y t → StandsFor c ts S y t
  stands_back y t s = (s.0, s.1, at_back s.1 s.2 at_head)

  pub looks_there : (x : VarName) → LooksAt c ts S x → LooksAt c ts S' x
  looks_there x (inl l) = inl (l.0, l.1, l.2, l.3, at_there l.3.0 l.4 at_head, (l.5.0, passes_there l.5.1 (at_head l.0 l.1 l.2 l.3.0 l.3.1 l.4)))
  looks_there x (inr l) = inr (l.0, l.1, l.2, l.3, l.4, stands_there l.1 l.2 l.5, (l.6.0, passes_there l.6.1 (at_test l.0 l.1 l.2 l.3 l.4 l.5)))

  pub looks_back : (x : VarName) → LooksAt c ts S' x → LooksAt c ts S x
  looks_back x (inl l) =
      let at = at_back l.3.0 l.4 at_head in
      inl (l.0, l.1, l.2, l.3, at, (l.5.0, passes_back l.5.1 (at_head l.0 l.1 l.2 l.3.0 l.3.1 at)))
  looks_back x (inr l) =
      let s = stands_back l.1 l.2 l.5 in
      inr (l.0, l.1, l.2, l.3, l.4, s, (l.6.0, passes_back l.6.1 (at_test l.0 l.1 l.2 l.3 l.4 s)))

  pub mismatch_there : Mismatch c ts S → Mismatch c ts S'
  mismatch_there m = (m.0, m.1, m.2, m.3, m.4, m.5, at_there m.5.0 m.6 at_head, leads_there m.7 (at_head m.0 m.1 m.2 m.5.0 m.5.1 m.6), m.8, m.9)

  pub head_wants_there : (x : VarName) → HeadWants c ts S x → HeadWants c ts S' x
  head_wants_there x w = (w.0, w.1, w.2, w.3, w.4, at_there w.4.0 w.5 at_head, leads_there w.6 (at_head w.0 w.1 w.2 w.4.0 w.4.1 w.5))

  stands_at_there : (g : Test) → In g c.tests → (y : VarName) (e : Tree) → In y (variables_of_test g) → StandsAt c ts S y e → StandsAt c ts S' y e
  stands_at_there g ig y e iy d = (d.0, d.1, stands_there y d.0 d.2, leads_there d.3 (at_test g y d.0 ig iy d.2))

  pub wants_there : (g : Test) → In g c.tests → (x : VarName) → TestWants c ts S g x → TestWants c ts S' g x
  wants_there g ig x w = (w.0, w.1, stands_at_there g ig w.0 (variable x) w.1 w.2)

  pub holds_there : (g : Test) → In g c.tests → Holds c ts S g → Holds c ts S' g
  holds_there (compare o a b) ig h = (
    h.0,
    h.1,
    number_there h.2 (λ y e i. stands_at_there (compare o a b) ig y e (in_left (leaf_variables a) (leaf_variables b) y i)),
    number_there h.3 (λ y e i. stands_at_there (compare o a b) ig y e (in_right (leaf_variables a) (leaf_variables b) y i)),
    h.4,
  )
  holds_there g ig h = (h.0, stands_at_there g ig _ h.0 (inl refl) h.1, h.2)
