-- A predicate with many clauses is met at its first clause.
use Rattle.ghcdb.proofs.CitedWords.{◌≡◌, ◌+◌, ◌<◌, ◌≤◌, ℕ, List, [], ◌∷◌, length, get_or, inl, sym, subst, refl, arith, In, in_contains, contains_in, list_any-from_Contains, Contains-from_any, eq_by_cmp_equiv, Equal-is, Clause, Program, AreNumbersFor, HasLargePredicate}
use borrow.Author.Count.{below_more}
use Rattle.std.proofs.lemmas.Cmp.{nat_cmp_total}
use Rattle.std.proofs.lemmas.Map.Keys.{IsDistinct-from_sorted, sorted_from_strictly_increasing}
use Rattle.std.proofs.lemmas.Map.Made.{length-le_from_is_member}
use Rattle.std.proofs.lemmas.Option.{get_or_from_slice_get, slice_get_read, slice_get_within}
use Rattle.ghc_core.specs.Excerpt.{few_clauses}
use Rattle.ghc_term.specs.Tree.{Tree}
use Rattle.std.specs.FinMap.{nat_cmp-IsAntisymmetric}
use Rattle.std.specs.List.Sorted.{IsStrictlyIncreasing}
use Rattle.std.specs.Ordering.{nat_cmp}

-- numbers that go up are no more than those among which each of them is
no_more : (ks js : List ℕ) → IsStrictlyIncreasing ks → ((k : ℕ) → In k ks → In k js) → length ks ≤ length js
no_more ks js up all =
    length-le_from_is_member (eq_by_cmp_equiv nat_cmp_total) ks js (IsDistinct-from_sorted nat_cmp ks (sorted_from_strictly_increasing ks up))
    (λ k is. list_any-from_Contains (eq_by_cmp_equiv nat_cmp_total) k js (in_contains js k (all k (contains_in ks k (Contains-from_any (λ a b e. nat_cmp-IsAntisymmetric a b ((Equal-is (nat_cmp a b)).0 e)) k ks is)))))

-- The predicate of the clause has a few at most.
abbrev pub HasFew : Program → Clause → Type 0
HasFew P c = (ks : List ℕ) → AreNumbersFor P c.name (length c.head) ks → length ks ≤ few_clauses

-- so it is where so many numbers were told
told_few : (P : Program) (c : Clause) (ks : List ℕ) → AreNumbersFor P c.name (length c.head) ks → length ks ≤ few_clauses → HasFew P c
told_few P c ks are few js other =
    let less : length js ≤ length ks = no_more js ks other.increasing (λ k i. (are.«exactly» k).1 ((other.«exactly» k).0 i)) in
    omega arith

-- one clause more was looked at
pub one_more : (P cs : Program) (i : ℕ) → cs ≡ P → ((k : ℕ) (d : Clause) → k < i → HasFew P (get_or P k d)) → i < length cs → (c : Clause) → c ≡ get_or cs i c
    → (f : List ℕ) (head : List Tree) (ks : List ℕ) → f ≡ c.name → head ≡ c.head → AreNumbersFor P f (length head) ks → length ks ≤ few_clauses
    → (k : ℕ) (d : Clause) → k < i + 1 → HasFew P (get_or P k d)
one_more P cs i same below low c is f head ks name arguments are few k d more = below_more (λ j. (e : Clause) → HasFew P (get_or P j e)) i (λ j less e. below j e less) here k more d
  where
    here : (e : Clause) → HasFew P (get_or P i e)
    here e =
        let at : get_or P i e ≡ c = subst (λ (l : Program). get_or l i e ≡ c) same (get_or_from_slice_get cs i c e (slice_get_read cs (length cs) i c refl low is)) in
        let told : HasFew P c = told_few P c ks (subst (λ (h : List Tree). AreNumbersFor P c.name (length h) ks) arguments (subst (λ (g : List ℕ). AreNumbersFor P g (length head) ks) name are)) few in
        subst (HasFew P) (sym at) told

-- where the predicate of each clause has few, each predicate has
pub none_has_many : (P : Program) → ((k : ℕ) (d : Clause) → k < length P → HasFew P (get_or P k d)) → ¬ HasLargePredicate P
none_has_many P few h = go h.clauses.0 refl h.clauses.2
  where
    go : (ks : List ℕ) → ks ≡ h.clauses.0 → few_clauses < length ks → ⊥
    go [] e many = absurd (omega arith)
    go (k ∷ ks) e many =
        let found = (h.clauses.1.«exactly» k).0 (subst (In k) e (inl refl)) in
        let c = found.0 in
        let at = found.1 in
        let is : get_or P at.0 c ≡ c = get_or_from_slice_get P at.0 c c at.2 in
        let here : HasFew P c = subst (HasFew P) is (few at.0 c (slice_get_within P at.0 c at.2)) in
        let numbers : AreNumbersFor P c.name (length c.head) h.clauses.0 = subst (λ f. AreNumbersFor P f (length c.head) h.clauses.0) (sym found.2) (subst (λ n. AreNumbersFor P h.name n h.clauses.0) (sym found.3) h.clauses.1) in
        let most : length h.clauses.0 ≤ few_clauses = here h.clauses.0 numbers in
        let more : few_clauses < length h.clauses.0 = h.clauses.2 in
        absurd (omega arith)
