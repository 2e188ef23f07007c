-- In an acyclic finite store each linear clause has an outcome.
use Rattle.ghc_match.proofs.Words.{◌≡◌, true, false, cond, ℤ, List, [], ◌∷◌, refl, sym, ap, ◌∙◌, subst, inl, inr, Option, Some, codes, eq_by_cmp, clash_ℤ, by_lt_z, ℤ_discrete, coded_list, coded_ℕ, VarName, Comparison, Less, AtMost, Greater, AtLeast, Equal, NotEqual, Tree, integer, node, none as no_tree, more, IsValue, In, Leads, Passes, IsAcyclic, name_cmp, StoreValue, value_at, leads_once, name_total, itself as itself_name, Decided, some_decided, same_decided, name_decided, each_in, not_both, Test, Wait as wait, IsInteger as is_integer, Compare as compare, Clause, IsLinear, variables_of_test, At, Number, Compares, IsAtom, IsList, StandsFor, HeadFits, StandsAt, Holds, TestWants, SaysNo, GuardSaysNo, GuardWants, WaitsFor, LooksAt, Outcome, refuses, waits, accepts, HasOutcome, EachClauseHasAnOutcome}
use Rattle.std.specs.FinMap as finite
use Rattle.ghc_flat.specs.declared.test.Test.TheVariants.{IsAtom as is_atom, IsList as is_list}
use Rattle.ghc_match.specs.Match.{IsInteger}
use Rattle.ghc_match.proofs.Chains.{leads_passes, passes_in, chains}
use Rattle.ghc_match.proofs.EachValue.{wanted, numbers}
use Rattle.ghc_match.proofs.LinearHeads.{one_position}
use Rattle.ghc_match.proofs.Listings.{Listing, none, one, restated, either, itself, some, over, such, through}
use Rattle.ghc_match.proofs.SetsOf.{listed_set}
use Rattle.ghc_match.proofs.HeadPositions.{value_decided, mismatch_decided, head_wants, head_looks, standing}
use Rattle.ghc_match.proofs.Positions.{at_once, entry_in}

-- the comparison holds, or not
compares_decided : (o : Comparison) (j k : ℤ) → Decided (Compares o j k)
compares_decided Less j k = by_lt_z j k inl (λ le. inr (λ lt. clash_ℤ lt le))
compares_decided AtMost j k = by_lt_z k j (λ lt. inr (λ le. clash_ℤ lt le)) inl
compares_decided Greater j k = by_lt_z k j inl (λ le. inr (λ lt. clash_ℤ lt le))
compares_decided AtLeast j k = by_lt_z j k (λ lt. inr (λ le. clash_ℤ lt le)) inl
compares_decided Equal j k = elim (ℤ_discrete j k) [ yes e ↦ inl e | no n ↦ inr n ]
compares_decided NotEqual j k = elim (ℤ_discrete j k) [ yes e ↦ inr (λ n. n e) | no n ↦ inl n ]

integer_decided : (e : Tree) → Decided (IsInteger e)
integer_decided (integer k) = inl tt
integer_decided _ = inr (λ i. i)

atom_decided : (e : Tree) → Decided (IsAtom e)
atom_decided (node f no_tree) = inl tt
atom_decided _ = inr (λ i. i)

list_decided : (e : Tree) → Decided (IsList e)
list_decided (node f no_tree) = same_decided (coded_list coded_ℕ) f (codes "[]")
list_decided (node f (more t (more u no_tree))) = same_decided (coded_list coded_ℕ) f (codes ".")
list_decided _ = inr (λ i. i)

-- what is listed under a name is found there
found : (es : List (VarName × Tree)) (y : VarName) (t : Tree) → In {X = VarName × Tree} (y, t) es → (u : Tree) × (finite.find name_cmp y es ≡ Some u)
found [] y t i = absurd i
found (b ∷ bs) y t i =
    elim (eq_by_cmp name_cmp y b.0) as (λ c. eq_by_cmp name_cmp y b.0 ≡ c → (u : Tree) × (cond c (Some b.1) (finite.find name_cmp y bs) ≡ Some u)) [
      | true ↦ λ p. (b.1, refl)
      | false ↦ λ p. elim i [
        | inl e ↦ absurd (not_both (eq_by_cmp name_cmp y b.0) p (ap (eq_by_cmp name_cmp y) (sym (ap (λ (d : VarName × Tree). d.0) e)) ∙ itself_name y))
        | inr j ↦ found bs y t j
      ]
    ] refl

module _ (c : Clause) (ts : List Tree) (s : StoreValue) (acyclic : IsAcyclic (value_at s)) where
  abbrev S : VarName → Option Tree
  S = value_at s

  entries : Listing (λ (b : VarName × Tree). StandsFor c ts S b.0 b.1)
  entries = standing c ts s acyclic

  -- all that the variable stands for
  stands_for : (y : VarName) → Listing (StandsFor c ts S y)
  stands_for y = restated
      (λ t h. subst (λ z. StandsFor c ts S z t) h.2.0 (subst (StandsFor c ts S h.0.0) h.2.1 h.1))
      (λ t f. ((y, t), f, (refl, refl)))
      (through (λ b t. (b.0 ≡ y) × (b.1 ≡ t)) entries (λ b. elim (name_decided b.0 y) [
        | inl e ↦ one b.1 (e, refl) (λ t h. sym h.1)
        | inr n ↦ none (λ t h. n h.0)
      ]))

  -- all that it ends in
  pub ends : (y : VarName) → Listing (StandsAt c ts S y)
  ends y = restated (λ e h. (h.0, h.2.0, h.1, h.2.1)) (λ e h. (h.0, h.2, (h.1, h.3))) (through (λ t e. (xs : List VarName) × Leads S t xs e) (stands_for y) (λ t.
      let k = chains s acyclic t in
      one k.1 (k.0, k.2) (λ e l. (leads_once l.1 k.2).1)))

  -- a test holds, or not
  holds_decided : (g : Test) → Decided (Holds c ts S g)
  holds_decided (wait y) = such IsValue (ends y) value_decided
  holds_decided (is_integer y) = such IsInteger (ends y) integer_decided
  holds_decided (is_atom y) = such IsAtom (ends y) atom_decided
  holds_decided (is_list y) = such IsList (ends y) list_decided
  holds_decided (compare o a b) = elim (such (λ j. (k : ℤ) × Number (StandsAt c ts S) b k × Compares o j k) (numbers (StandsAt c ts S) ends a) (λ j. such (Compares o j) (numbers (StandsAt c ts S) ends b) (compares_decided o j))) [
    | inl h ↦ inl (h.0, h.2.0, h.1, h.2.1, h.2.2)
    | inr n ↦ inr (λ h. n (h.0, h.2, (h.1, h.3, h.4)))
  ]

  -- all that a test, or the guard, waits for
  test_wants : (g : Test) → Listing (TestWants c ts S g)
  test_wants g = wanted (StandsAt c ts S) ends (variables_of_test g)

  guard_wants : Listing (GuardWants c ts S)
  guard_wants = over c.tests (TestWants c ts S) (λ g i. test_wants g)

  pub says_no_decided : (g : Test) → Decided (SaysNo c ts S g)
  says_no_decided g = elim (some (test_wants g)) [
    | inl w ↦ inr (λ n. n.0 w.0 w.1)
    | inr m ↦ elim (holds_decided g) [
      | inl h ↦ inr (λ n. n.1 h)
      | inr n ↦ inl ((λ x w. m (x, w)), n)
    ]
  ]

  guard_no : Decided (GuardSaysNo c ts S)
  guard_no = some_decided c.tests (SaysNo c ts S) (λ g i. says_no_decided g)

  -- all that the clause looks at
  abbrev GuardLooks : VarName → Type 0
  GuardLooks x = (g : Test) × (y : VarName) × (t : Tree) × In g c.tests × In y (variables_of_test g) × StandsFor c ts S y t × Passes S t x

  passed_by : (t : Tree) → Listing (λ x. Passes S t x)
  passed_by t = let k = chains s acyclic t in restated (λ x i. leads_passes k.2 i) (λ x p. passes_in k.2 p.1) (itself k.0)

  guard_looks : Listing GuardLooks
  guard_looks = restated
      (λ x h. let v = h.2 in let t = v.2 in (h.0, v.0, t.0, h.1, v.1, t.1, t.2))
      (λ x h. (h.0, h.3, (h.1, h.4, (h.2, h.5, h.6))))
      (over c.tests (λ g x. (y : VarName) × In y (variables_of_test g) × ((t : Tree) × StandsFor c ts S y t × Passes S t x)) (λ g i.
      over (variables_of_test g) (λ y x. (t : Tree) × StandsFor c ts S y t × Passes S t x) (λ y j. through (λ t x. Passes S t x) (stands_for y) passed_by)))

  looks : Listing (LooksAt c ts S)
  looks = either (head_looks c ts s acyclic) guard_looks

  abbrev HasOne : Type 0
  HasOne = (o : Outcome) × HasOutcome c ts S o

  -- a clause waits, if it waits for something
  waiting : (wanted : Listing (WaitsFor c ts S)) → ((x : VarName) × WaitsFor c ts S x) → HasOne
  waiting l w = let xs = listed_set l in (waits xs.0, (xs.1, w))

  once : IsLinear c → (y : VarName) (t u : Tree) → StandsFor c ts S y t → StandsFor c ts S y u → t ≡ u
  once linear y t u a b = at_once (subst (λ p. At S ts p t) (one_position c.head a.0 b.0 y linear a.1 b.1) a.2) b.2

  accepting : IsLinear c → HeadFits c ts S → ¬ GuardSaysNo c ts S → ((x : VarName) → ¬ GuardWants c ts S x) → HasOne
  accepting linear fits quiet wants = (
    accepts (finite.from_entries entries.items) (listed_set looks).0,
    (
      (fits, λ g i. ((λ x w. wants x (g, i, w)), elim (holds_decided g) [ inl h ↦ h | inr n ↦ absurd (quiet (g, i, ((λ x w. wants x (g, i, w)), n))) ])),
      λ y t. (
        λ e. there y t (sym (finite.get-from_entries name_total entries.items y) ∙ e),
        λ f.
            let u = found entries.items y t (entries.all (y, t) f) in
            finite.get-from_entries name_total entries.items y ∙ u.1 ∙ ap Some (once linear y u.0 t (there y u.0 u.1) f),
      ),
      (listed_set looks).1,
    ),
  ) where
    there : (y : VarName) (t : Tree) → finite.find name_cmp y entries.items ≡ Some t → StandsFor c ts S y t
    there y t e = each_in entries.items (λ b. StandsFor c ts S b.0 b.1) (y, t) entries.each (entry_in entries.items y t e)

  fitting : IsLinear c → HeadFits c ts S → HasOne
  fitting linear fits = elim guard_no [
    | inl n ↦ (refuses, inr (fits, n))
    | inr quiet ↦ elim (some guard_wants) [
      | inl w ↦ waiting (restated (λ x g. inr (fits, quiet, g)) (λ x h. elim h [ inl a ↦ absurd (fits.1 x a.1) | inr b ↦ b.2 ]) guard_wants) (w.0, inr (fits, quiet, w.1))
      | inr n ↦ accepting linear fits quiet (λ x w. n (x, w))
    ]
  ]

  pub has_one : IsLinear c → HasOne
  has_one linear = elim (mismatch_decided c ts s acyclic) [
    | inl m ↦ (refuses, inl m)
    | inr ok ↦ elim (some (head_wants c ts s acyclic)) [
      | inl w ↦ waiting (restated (λ x h. inl (ok, h)) (λ x h. elim h [ inl a ↦ a.1 | inr b ↦ absurd (b.0.1 w.0 w.1) ]) (head_wants c ts s acyclic)) (w.0, inl (ok, w.1))
      | inr n ↦ fitting linear (ok, λ x w. n (x, w))
    ]
  ]

pub each_outcome : EachClauseHasAnOutcome
each_outcome c ts s linear acyclic = has_one c ts s acyclic linear
