-- In a head without a variable twice, each variable stands at one position.
use Rattle.ghc_match.proofs.Words.{◌≡◌, ℕ, zero, suc, List, [], ◌∷◌, refl, sym, ap, subst, inl, Some, None, slice_get, VarName, Tree, variable, node, Trees, none, more, list_of, trees, In, in_left, in_right, AreDistinct, variables, variables_of_all, variables_of_list, distinct_left, distinct_right, distinct_apart, all_list, At, here, down, unbound}
use Rattle.ghc_match.proofs.Chains.{written}
use Rattle.ghc_match.proofs.Positions.{back_again}

-- at p within the tree stands the variable y
abbrev Stands : Tree → List ℕ → VarName → Type 0
Stands t [] y = t ≡ variable y
Stands t (i ∷ p) y = (f : List ℕ) × (us : Trees) × (t ≡ node f us) × At unbound (list_of us) (i ∷ p) (variable y)

-- a position among arguments begins with the number of one of them
within : {hs : List Tree} {i : ℕ} {p : List ℕ} {y : VarName} → At unbound hs (i ∷ p) (variable y) → (t : Tree) × (slice_get hs i ≡ Some t) × Stands t p y
within (here {t = t} e) = (t, e, refl)
within {y = y} (down {p = p} {f = f} {us = us} {t = t} e l a) = (t, e, inside p a (written l)) where
  inside : (p : List ℕ) → At unbound (list_of us) p (variable y) → t ≡ node f us → Stands t p y
  inside [] a s = elim a [ ]
  inside (j ∷ q) a s = (f, us, s, a)

abbrev At_number : Trees → ℕ → List ℕ → VarName → Type 0
At_number us i p y = (t : Tree) × (slice_get (list_of us) i ≡ Some t) × Stands t p y

mutual
  -- what stands in the tree is one of its variables
  occurs : (t : Tree) (p : List ℕ) (y : VarName) → Stands t p y → In y (variables t)
  occurs (variable x) [] y s = let same : x ≡ y = cc in inl (sym same)
  occurs (node f us) (i ∷ p) y s = let same : s.1 ≡ us = let e = s.2 in cc in occurs_all us i p y (within (subst (λ w. At unbound (list_of w) (i ∷ p) (variable y)) same s.3))
  occurs t (i ∷ p) y s = let no : t ≡ node s.0 s.1 = s.2 in cc
  occurs _ [] y s = cc

  occurs_all : (us : Trees) (i : ℕ) (p : List ℕ) (y : VarName) → At_number us i p y → In y (variables_of_all us)
  occurs_all none i p y a = let no : None ≡ Some a.0 = a.1 in cc
  occurs_all (more t ts) zero p y a = let same : a.0 ≡ t = let e = a.1 in cc in in_left (variables t) (variables_of_all ts) y (occurs t p y (subst (λ w. Stands w p y) same a.2))
  occurs_all (more t ts) (suc i) p y a = in_right (variables t) (variables_of_all ts) y (occurs_all ts i p y a)

numbered : {i j : ℕ} {p q : List ℕ} → i ∷ p ≡ j ∷ q → suc i ∷ p ≡ suc j ∷ q
numbered e = cc

mutual
  tree_once : (t : Tree) (p q : List ℕ) (y : VarName) → AreDistinct (variables t) → Stands t p y → Stands t q y → p ≡ q
  tree_once (variable x) [] [] y d a b = refl
  tree_once (variable x) [] (j ∷ q) y d a b = let no : variable x ≡ node b.0 b.1 = b.2 in cc
  tree_once (node f us) (i ∷ p) [] y d a b = cc
  tree_once (node f us) (i ∷ p) (j ∷ q) y d a b =
      let one : a.1 ≡ us = let e = a.2 in cc in
      let two : b.1 ≡ us = let e = b.2 in cc in
      all_once us i j p q y d (within (subst (λ w. At unbound (list_of w) (i ∷ p) (variable y)) one a.3)) (within (subst (λ w. At unbound (list_of w) (j ∷ q) (variable y)) two b.3))
  tree_once t (i ∷ p) q y d a b = let no : t ≡ node a.0 a.1 = a.2 in cc
  tree_once _ [] q y d a b = cc

  all_once : (us : Trees) (i j : ℕ) (p q : List ℕ) (y : VarName) → AreDistinct (variables_of_all us) → At_number us i p y → At_number us j q y → i ∷ p ≡ j ∷ q
  all_once none i j p q y d a b = let no : None ≡ Some a.0 = a.1 in cc
  all_once (more t ts) zero zero p q y d a b =
      let one : a.0 ≡ t = let e = a.1 in cc in
      let two : b.0 ≡ t = let e = b.1 in cc in
      ap (λ l. 0 ∷ l) (tree_once t p q y (distinct_left (variables t) (variables_of_all ts) d) (subst (λ w. Stands w p y) one a.2) (subst (λ w. Stands w q y) two b.2))
  all_once (more t ts) zero (suc j) p q y d a b = absurd (distinct_apart (variables t) (variables_of_all ts) d y
      (let one : a.0 ≡ t = let e = a.1 in cc in occurs t p y (subst (λ w. Stands w p y) one a.2)) (occurs_all ts j q y b))
  all_once (more t ts) (suc i) zero p q y d a b = absurd (distinct_apart (variables t) (variables_of_all ts) d y
      (let two : b.0 ≡ t = let e = b.1 in cc in occurs t q y (subst (λ w. Stands w q y) two b.2)) (occurs_all ts i p y a))
  all_once (more t ts) (suc i) (suc j) p q y d a b = numbered (all_once ts i j p q y (distinct_right (variables t) (variables_of_all ts) d) a b)

pub one_position : (hs : List Tree) (p q : List ℕ) (y : VarName) → AreDistinct (variables_of_list hs) → At unbound hs p (variable y) → At unbound hs q (variable y) → p ≡ q
one_position hs [] q y d a b = elim a [ ]
one_position hs (i ∷ p) [] y d a b = elim b [ ]
one_position hs (i ∷ p) (j ∷ q) y d a b =
    let back = back_again hs in
    all_once (trees hs) i j p q y (subst AreDistinct (sym (all_list hs)) d)
    (within (subst (λ w. At unbound w (i ∷ p) (variable y)) back a)) (within (subst (λ w. At unbound w (j ∷ q) (variable y)) back b))
