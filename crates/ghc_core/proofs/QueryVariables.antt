-- Lemmas on the variables of a query and of its kept steps.
use Rattle.ghc_core.proofs.Words.{◌≡◌, ℕ, ◌+◌, ◌-◌, ◌<◌, ◌≤◌, List, [], length, get_or, refl, sym, ap, ◌∙◌, subst, arith, slice_get_within, slice_get-get_or, VarName, In, WrittenQuery, IsWellAsked, AreNumbered, in_at, at_of_in, var_inj as same_parts, asked, AreDistinct, Record, numbers, MakesVariable, first_in, record_once, firsts_in}
use Rattle.ghc_term.specs.Variables.{firsts, variables_of_goals}

-- a variable of a numbered list is one of its first occurrences, by number
pub number_of_in : (xs : List VarName) (x : VarName) → AreNumbered xs → In x xs → (i : ℕ) × (x ≡ asked (i + 1)) × (i < length (firsts [] xs))
number_of_in xs x numbered i =
    let p = at_of_in (firsts [] xs) x (first_in [] xs x i refl) in
    (p.0, numbered p.0 x p.1, slice_get_within (firsts [] xs) p.0 x p.1)

-- and each number up to that of first occurrences is a variable's
pub in_of_number : (xs : List VarName) (i : ℕ) → AreNumbered xs → i < length (firsts [] xs) → In (asked (i + 1)) xs
in_of_number xs i numbered h =
    let x = get_or (firsts [] xs) i (asked 0) in
    let e = slice_get-get_or (firsts [] xs) i (asked 0) h in
    subst (λ y. In y xs) (numbered i x e) (firsts_in [] xs x (in_at (firsts [] xs) i x e))

module _ (q : WrittenQuery) (well : IsWellAsked q) where
  -- a variable of the query is known by its step and its place
  pub in_query : (x : VarName) → x.step ≡ 0 → 1 ≤ x.place → x.place ≤ length q.variables → In x (variables_of_goals q.goals)
  in_query x step low high =
      let place : (x.place - 1) + 1 ≡ x.place = omega arith in
      let same : asked ((x.place - 1) + 1) ≡ x = same_parts (asked ((x.place - 1) + 1)) x (sym step) place in
      subst (λ y. In y (variables_of_goals q.goals)) same (in_of_number (variables_of_goals q.goals) (x.place - 1) well.numbered (omega (arith, well.named)))

  pub of_query : (x : VarName) → In x (variables_of_goals q.goals) → (x.step ≡ 0) × (1 ≤ x.place) × (x.place ≤ length q.variables)
  of_query x i =
      let n = number_of_in (variables_of_goals q.goals) x well.numbered i in
      let place : x.place ≡ n.0 + 1 = ap (λ (y : VarName). y.place) n.1 in
      (ap (λ (y : VarName). y.step) n.1, omega arith, omega (arith, n.2, well.named))

-- what a step made is seen by the record of its number
pub made_by : (rs : List Record) (r : Record) (x : VarName) → AreDistinct (numbers rs) → In r rs → r.number ≡ x.step → (s : Record) × In s rs × MakesVariable s x → (1 ≤ x.place) × (x.place ≤ r.effect.fresh)
made_by rs r x distinct i e m =
    let same : m.0 ≡ r = record_once rs m.0 r distinct m.1 i (sym m.2.0 ∙ sym e) in
    (m.2.1, subst (λ (s : Record). x.place ≤ s.effect.fresh) same m.2.2)
