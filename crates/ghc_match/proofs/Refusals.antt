-- The place at which a clause refuses: there is one, and no other.
use Rattle.ghc_match.proofs.Words.{◌≡◌, ◌<◌, ℕ, zero, suc, ◌+◌, List, [], ◌∷◌, refl, sym, ap, ◌∙◌, subst, inl, inr, ◌⊎◌, arith, cases_order, Option, Some, None, slice_get, VarName, Tree, IsAcyclic, StoreValue, value_at, Decided, nat_decided, in_at, at_of_in, Test, Compare as compare, Clause, At, here, down, HeadHas, HeadFits, Mismatch, StandsAt, SaysNo, GuardSaysNo, Refuses, RefusalPlace, Argument, by_test, by_value, IsFirst, HasValuesBy, MismatchIn, TestSaysNo, TestHasValues, RefusesAt, RefusesSomewhere, RefusesAtOnePlace}
use Rattle.ghc_match.proofs.EachOutcome.{ends, says_no_decided}
use Rattle.ghc_match.proofs.EachValue.{numbers}
use Rattle.ghc_match.proofs.HeadPositions.{mismatch_in_decided}
use Rattle.ghc_match.proofs.Listings.{some}

-- where P is decided and holds of a number, there is a first one
module _ (P : ℕ → Type 0) (decided : (i : ℕ) → Decided (P i)) where
  up_to : (n : ℕ) → ((i : ℕ) × IsFirst P i) ⊎ ((j : ℕ) → j < n → ¬ P j)
  up_to zero = inr (λ j l. absurd (omega (arith, l)))
  up_to (suc n) = elim (up_to n) [
    | inl f ↦ inl f
    | inr none ↦ elim (decided n) [
      | inl p ↦ inl (n, (p, none))
      | inr not ↦ inr (λ j l. elim (nat_decided j n) [ inl e ↦ subst (λ k. ¬ P k) (sym e) not | inr d ↦ none j (omega (arith, l, d)) ])
    ]
  ]

  pub first_found : (n : ℕ) → P n → (i : ℕ) × IsFirst P i
  first_found n p = elim (up_to (suc n)) [ inl f ↦ f | inr none ↦ absurd (none n (omega arith) p) ]

first_once : (P : ℕ → Type 0) (i j : ℕ) → IsFirst P i → IsFirst P j → i ≡ j
first_once P i j p q = elim (cases_order i j) [
  | inl e ↦ e
  | inr o ↦ elim o [ inl l ↦ absurd (q.1 i l p.0) | inr l ↦ absurd (p.1 j l q.0) ]
]

-- a position begins with the number of an argument
pub begins : {S : VarName → Option Tree} {ts : List Tree} {p : List ℕ} {t : Tree} → At S ts p t → (i : ℕ) × (q : List ℕ) × (p ≡ i ∷ q)
begins (here {i = i} e) = (i, [], refl)
begins (down {i = i} {p = p} e l a) = (i, p, refl)

module _ (c : Clause) (ts : List Tree) (S : VarName → Option Tree) where
  pub in_argument : Mismatch c ts S → (i : ℕ) × MismatchIn c ts S i
  in_argument m =
      let b = begins m.6 in
      (b.0, (b.1, m.1, m.2, m.3, m.4, subst (λ p. HeadHas c ts S p m.1) b.2 m.5, subst (λ p. At S ts p m.2) b.2 m.6, m.7, m.8, m.9))

  pub is_mismatch : (i : ℕ) → MismatchIn c ts S i → Mismatch c ts S
  is_mismatch i m = (i ∷ m.0, m.1, m.2, m.3, m.4, m.5, m.6, m.7, m.8, m.9)

  is_no : (i : ℕ) → TestSaysNo c ts S i → GuardSaysNo c ts S
  is_no i n = (n.0, in_at c.tests i n.0 n.1, n.2)

  refuses_at : (place : RefusalPlace) → RefusesAt c ts S place → Refuses c ts S
  refuses_at (Argument k) p = inl (is_mismatch p.0 p.2.0)
  refuses_at (by_test k) p = let w = p.1 in inr (p.0, is_no w.0 w.2.0)
  refuses_at (by_value k) p = let w = p.1 in inr (p.0, is_no w.0 w.2.0)

pub one_place : RefusesAtOnePlace
one_place c ts S (Argument k) (Argument l) p q = ap Argument (p.1 ∙ ap (λ i. i + 1) (first_once (MismatchIn c ts S) p.0 q.0 p.2 q.2) ∙ sym q.1)
one_place c ts S (Argument k) (by_test l) p q = let f = q.0 in absurd (f.0 (is_mismatch c ts S p.0 p.2.0))
one_place c ts S (Argument k) (by_value l) p q = let f = q.0 in absurd (f.0 (is_mismatch c ts S p.0 p.2.0))
one_place c ts S (by_test k) (Argument l) p q = let f = p.0 in absurd (f.0 (is_mismatch c ts S q.0 q.2.0))
one_place c ts S (by_test k) (by_test l) p q = let v = p.1 in let w = q.1 in ap by_test (v.1 ∙ ap (λ i. i + 1) (first_once (TestSaysNo c ts S) v.0 w.0 v.2 w.2) ∙ sym w.1)
one_place c ts S (by_test k) (by_value l) p q = let v = p.1 in let w = q.1 in absurd (w.3 (subst (TestHasValues c ts S) (first_once (TestSaysNo c ts S) v.0 w.0 v.2 w.2) v.3))
one_place c ts S (by_value k) (Argument l) p q = let f = p.0 in absurd (f.0 (is_mismatch c ts S q.0 q.2.0))
one_place c ts S (by_value k) (by_test l) p q = let v = p.1 in let w = q.1 in absurd (v.3 (subst (TestHasValues c ts S) (first_once (TestSaysNo c ts S) w.0 v.0 w.2 v.2) w.3))
one_place c ts S (by_value k) (by_value l) p q = let v = p.1 in let w = q.1 in ap by_value (v.1 ∙ ap (λ i. i + 1) (first_once (TestSaysNo c ts S) v.0 w.0 v.2 w.2) ∙ sym w.1)

-- a test at this place is the one that stands there
pub one_test : (gs : List Test) (i : ℕ) {f g : Test} → slice_get gs i ≡ Some f → slice_get gs i ≡ Some g → f ≡ g
one_test gs i {f = f} {g = g} p q = let both : Some f ≡ Some g = sym p ∙ q in cc

module _ (c : Clause) (ts : List Tree) (s : StoreValue) (acyclic : IsAcyclic (value_at s)) where
  abbrev S : VarName → Option Tree
  S = value_at s

  no_decided : (i : ℕ) → Decided (TestSaysNo c ts S i)
  no_decided i = elim (slice_get c.tests i) as (λ o. slice_get c.tests i ≡ o → Decided (TestSaysNo c ts S i)) [
    | None ↦ λ e. inr (λ n. let no : None ≡ Some n.0 = sym e ∙ n.1 in cc)
    | Some g ↦ λ e. elim (says_no_decided c ts s acyclic g) [
      | inl n ↦ inl (g, e, n)
      | inr y ↦ inr (λ n. y (subst (SaysNo c ts S) (one_test c.tests i n.1 e) n.2))
    ]
  ] refl

  values_decided : (g : Test) → Decided (HasValuesBy (StandsAt c ts S) g)
  values_decided (compare o a b) = elim (some (numbers (StandsAt c ts S) (ends c ts s acyclic) a)) [
    | inr n ↦ inr (λ h. n (h.0, h.2))
    | inl x ↦ elim (some (numbers (StandsAt c ts S) (ends c ts s acyclic) b)) [ inr n ↦ inr (λ h. n (h.1, h.3)) | inl y ↦ inl (x.0, y.0, x.1, y.1) ]
  ]
  values_decided _ = inl tt

  at_guard : HeadFits c ts S → (i : ℕ) → IsFirst (TestSaysNo c ts S) i → (place : RefusalPlace) × RefusesAt c ts S place
  at_guard fits i f =
      let n = f.0 in
      elim (values_decided n.0) [
        | inl v ↦ (by_test (i + 1), (fits, (i, refl, f, (n.0, n.1, v))))
        | inr lacks ↦ (by_value (i + 1), (fits, (i, refl, f, λ v. lacks (subst (HasValuesBy (StandsAt c ts S)) (one_test c.tests i v.1 n.1) v.2))))
      ]

  place_of : Refuses c ts S → (place : RefusalPlace) × RefusesAt c ts S place
  place_of (inl m) =
      let k = in_argument c ts S m in
      let f = first_found (MismatchIn c ts S) (mismatch_in_decided c ts s acyclic) k.0 k.1 in
      (Argument (f.0 + 1), (f.0, refl, f.1))
  place_of (inr r) =
      let n = r.1 in
      let k = at_of_in c.tests n.0 n.1 in
      let f = first_found (TestSaysNo c ts S) no_decided k.0 (n.0, k.1, n.2) in
      at_guard r.0 f.0 f.1

pub somewhere : RefusesSomewhere
somewhere c ts s acyclic = (place_of c ts s acyclic, λ p. refuses_at c ts (value_at s) p.0 p.1)
