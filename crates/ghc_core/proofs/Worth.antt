-- An excerpt is not worth its while where the program has few clauses for the call.
use Rattle.ghc_core.proofs.Words.{◌≡◌, ◌<◌, ◌≤◌, ℕ, suc, List, [], ◌∷◌, length, sym, ◌∙◌, subst, arith, Some, Tree, GoalName, World, AreDistinct, AreNumbersFor, no_longer}
use Rattle.std.specs.Prelude.{slice_index_or}
use Rattle.std.specs.FinMap as finite
use Rattle.std.specs.List.{AllPairs}
use Rattle.std.proofs.lemmas.List.{get_or_default}
use Rattle.std.proofs.lemmas.List.Kept.{AllPairs-from_increasing}
use Rattle.ghc_term.specs.Goal.{call}
use Rattle.ghc_term.proofs.ListsLemmas.{in_contains}
use Rattle.ghc_flat.specs.Clause.{Program}
use Rattle.ghc_core.specs.Excerpt.{few_clauses, IsWorthAnExcerpt}

-- numbers that go up are distinct
rising_distinct : (ks : List ℕ) → AllPairs (λ a b. a < b) ks → AreDistinct ks
rising_distinct [] up = tt
rising_distinct (k ∷ ks) up = (
  (λ i.
      let m = in_contains ks k i in
      let there : slice_index_or ks m.0 0 ≡ k = get_or_default ks m.0 0 k m.1 ∙ m.2 in
      let climbs : k < slice_index_or ks m.0 0 = up 0 (suc m.0) 0 (omega arith) (omega (arith, m.1)) in
      omega (arith, climbs, there)),
  rising_distinct ks (λ i j d before within. up (suc i) (suc j) d (omega arith) (omega arith)),
)

-- the numbers of the clauses for a call are as many, however they are told
no_more_numbers : (P : Program) (f : List ℕ) (n : ℕ) (ks js : List ℕ) → AreNumbersFor P f n ks → AreNumbersFor P f n js → length js ≤ length ks
no_more_numbers P f n ks js a b = no_longer js ks (rising_distinct js (AllPairs-from_increasing js b.increasing)) (λ k i. (a.«exactly» k).1 ((b.«exactly» k).0 i))

module _ (w : World) (g : GoalName) (f : List ℕ) (ts : List Tree) (there : finite.get w.state.goals g ≡ Some (call f ts)) where
  same_call : (e : IsWorthAnExcerpt w g) → (f ≡ e.name) × (ts ≡ e.arguments)
  same_call e = let found : Some (call f ts) ≡ Some (call e.name e.arguments) = sym there ∙ e.there in (cc, cc)

  pub no_more_than_few : (ks : List ℕ) → AreNumbersFor w.opening.program f (length ts) ks → length ks ≤ few_clauses → ¬ IsWorthAnExcerpt w g
  no_more_than_few ks numbers few e =
      let same = same_call e in
      let all = subst (λ h. AreNumbersFor w.opening.program h (length e.arguments) ks) same.0 (subst (λ us. AreNumbersFor w.opening.program f (length us) ks) same.1 numbers) in
      let no_more = no_more_numbers w.opening.program e.name (length e.arguments) ks e.clauses.0 all e.clauses.1 in
      omega (arith, e.clauses.2)
