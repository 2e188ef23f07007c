-- From what the search for a refusal finds to its place.
use Rattle.ghc_match.proofs.Words.{◌≡◌, ◌<◌, ℕ, zero, suc, ◌+◌, List, [], ◌∷◌, length, sym, ◌∙◌, subst, inl, inr, ◌⊎◌, ◌↔◌, arith, append-nil, nat_decided, refl, Option, Some, None, slice_get, slice_get_within, VarName, at_of_in, Tree, variables, variables_of_list, StoreValue, value_at, Variables, IsSetOf, member, no_member, Test, Clause, AreDistinct, distinct_left, distinct_right, At, here, down, unbound, StandsAndEnds, StandsFor, StandsAt, HeadWants, HeadFits, Mismatch, Refuses, IsSaid, Says, Yes, No, Waits, HasValuesBy, IsFirst, MismatchIn, TestSaysNo, RefusesAt, by_test, by_value, ClashesWithin, IsNoAt}
use Rattle.std.specs.FinSet as set
use Rattle.ghc_match.proofs.Outcomes.{refuses_waits}
use Rattle.ghc_match.proofs.Refusals.{begins, in_argument, one_test}
use Rattle.ghc_match.proofs.TryClause.{no_there, no_back, values_there, values_back}

-- what stands at a position below one argument stands there among all
widened : {S : VarName → Option Tree} {t u : Tree} {j : ℕ} {q : List ℕ} (ts : List Tree) (i : ℕ) → slice_get ts i ≡ Some t → At S (t ∷ []) (j ∷ q) u → At S ts (i ∷ q) u
widened ts i g (here {i = zero} e) = here (g ∙ e)
widened ts i g (here {i = suc k} {t = u} e) = let clash : None ≡ Some u = e in cc
widened ts i g (down {i = zero} e l a) = down (g ∙ e) l a
widened ts i g (down {i = suc k} {t = u} e l a) = let clash : None ≡ Some u = e in cc

narrowed : {S : VarName → Option Tree} {t u : Tree} {q : List ℕ} (ts : List Tree) (i : ℕ) → slice_get ts i ≡ Some t → At S ts (i ∷ q) u → At S (t ∷ []) (0 ∷ q) u
narrowed ts i g (here e) = here (sym g ∙ e)
narrowed ts i g (down e l a) = down (sym g ∙ e) l a

-- one argument of the head clashes with that of the call, or not
pub clashes_there : (c : Clause) (ts : List Tree) (S : VarName → Option Tree) (i : ℕ) (h t : Tree) → slice_get c.head i ≡ Some h → slice_get ts i ≡ Some t → ClashesWithin S h t ↔ MismatchIn c ts S i
clashes_there c ts S i h t at beside = (
  λ m.
      let b = begins m.6 in
      (b.1, m.1, m.2, m.3, m.4, (widened c.head i at (subst (λ p. At unbound (h ∷ []) p m.1) b.2 m.5.0), m.5.1), widened ts i beside (subst (λ p. At S (t ∷ []) p m.2) b.2 m.6), m.7, m.8, m.9),
  λ m. (0 ∷ m.0, m.1, m.2, m.3, m.4, (narrowed c.head i at m.5.0, m.5.1), narrowed ts i beside m.6, m.7, m.8, m.9),
)

-- a clash is in an argument that both have
first_there : {S : VarName → Option Tree} {ts : List Tree} {i : ℕ} {p : List ℕ} {t : Tree} → At S ts (i ∷ p) t → i < length ts
first_there {ts = ts} {i = i} (here {t = t} e) = slice_get_within ts i t e
first_there {ts = ts} {i = i} (down {t = t} e l a) = slice_get_within ts i t e

pub within_both : (c : Clause) (ts : List Tree) (S : VarName → Option Tree) (i : ℕ) → MismatchIn c ts S i → (i < length c.head) × (i < length ts)
within_both c ts S i m = (first_there m.5.0, first_there m.6)

-- the variables of one argument are as distinct as those of all
pub distinct_in : (hs : List Tree) (i : ℕ) (h : Tree) → slice_get hs i ≡ Some h → AreDistinct (variables_of_list hs) → AreDistinct (variables h)
distinct_in [] i h e d = let clash : None ≡ Some h = e in cc
distinct_in (x ∷ hs) zero h e d = let same : x ≡ h = cc in subst (λ z. AreDistinct (variables z)) same (distinct_left (variables x) (variables_of_list hs) d)
distinct_in (x ∷ hs) (suc i) h e d = distinct_in hs i h e (distinct_right (variables x) (variables_of_list hs) d)

pub alone : (h : Tree) → AreDistinct (variables h) → AreDistinct (variables_of_list (h ∷ []))
alone h d = subst AreDistinct (sym (append-nil (variables h))) d

-- none of the first numbers has P, and not the next one either
pub none_more : (P : ℕ → Type 0) (n : ℕ) → ((j : ℕ) → j < n → ¬ P j) → ¬ P n → (j : ℕ) → j < n + 1 → ¬ P j
none_more P n none next j l = λ p. elim (in_front j n l) [ inl less ↦ none j less p | inr e ↦ next (subst P e p) ] where
  in_front : (j n : ℕ) → j < n + 1 → (j < n) ⊎ (j ≡ n)
  in_front j n l = elim (nat_decided j n) [ inl e ↦ inr e | inr d ↦ inl (omega (arith, l, d)) ]

-- a test that says yes or waits does not say no
pub not_no : (E : VarName → Tree → Type 0) (g : Test) (s : Says) → IsSaid E g s → ¬ (s ≡ No) → ¬ IsSaid E g No
not_no E g Yes i n says = says.1 i.1
not_no E g No i n says = n refl
not_no E g Waits i n says = says.0 i.0 i.1

module _ (c : Clause) (ts : List Tree) (S : VarName → Option Tree) (none : (i : ℕ) → ¬ MismatchIn c ts S i) where
  pub no_mismatch : ¬ Mismatch c ts S
  no_mismatch m = let k = in_argument c ts S m in none k.0 k.1

  module _ (wanted : Variables) (head : IsSetOf wanted (HeadWants c ts S)) where
    -- a head that waits does not refuse
    pub waiting_not : 0 < set.len wanted → ¬ Refuses c ts S
    waiting_not h r = let m = member wanted h in refuses_waits c ts S r m.0 (inl (no_mismatch, (head m.0).0 m.1))

    pub head_fits : set.len wanted ≡ 0 → HeadFits c ts S
    head_fits h = (no_mismatch, λ x w. no_member wanted h x ((head x).1 w))

module _ (c : Clause) (ts : List Tree) (S : VarName → Option Tree) (stands : StoreValue) (stand : (y : VarName) (t : Tree) → (value_at stands y ≡ Some t) ↔ StandsFor c ts S y t) where
  first_no_there : (i : ℕ) → IsFirst (IsNoAt (StandsAndEnds stands S) c.tests) i → IsFirst (TestSaysNo c ts S) i
  first_no_there i f =
      let n = f.0 in
      ((n.0, n.1, no_there c ts S stands stand n.0 n.2), λ j l m. f.1 j l (m.0, m.1, no_back c ts S stands stand m.0 m.2))

  -- no test says no
  pub none_no : (¬ Mismatch c ts S) → ((i : ℕ) → ¬ IsNoAt (StandsAndEnds stands S) c.tests i) → ¬ Refuses c ts S
  none_no fits none (inl m) = fits m
  none_no fits none (inr r) =
      let n = r.1 in
      let k = at_of_in c.tests n.0 n.1 in
      none k.0 (n.0, k.1, no_back c ts S stands stand n.0 n.2)

  module _ (fits : HeadFits c ts S) (k i : ℕ) (g : Test) (is : k ≡ i + 1) (at : slice_get c.tests i ≡ Some g) (f : IsFirst (IsNoAt (StandsAndEnds stands S) c.tests) i) where
    -- the first test that does has its values
    pub refuses_by_test : HasValuesBy (StandsAndEnds stands S) g → RefusesAt c ts S (by_test k)
    refuses_by_test v = (fits, (i, is, first_no_there i f, (g, at, values_there c ts S stands stand g v)))

    -- .. or lacks one
    pub refuses_by_value : (¬ HasValuesBy (StandsAndEnds stands S) g) → RefusesAt c ts S (by_value k)
    refuses_by_value lacks = (fits, (i, is, first_no_there i f, λ v. lacks (values_back c ts S stands stand g (subst (HasValuesBy (StandsAt c ts S)) (one_test c.tests i v.1 at) v.2))))
