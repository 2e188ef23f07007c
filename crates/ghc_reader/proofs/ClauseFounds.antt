-- The derivation of clauses, from those of their parts, and the faults after them.
use Rattle.ghc_reader.proofs.Words.{◌≡◌, ◌≢◌, ℕ, List, [], ◌∷◌, ◌++◌, length, refl, sym, ap, ◌∙◌, subst, Comparison, Comma, Bar, Define, Stop, Token, first, Begins, plain_test, compare, Tests, last_test, next_test, Body, last, next, Right, unguarded, guarded, Clause, fact, rule, Program, arguments, rest, tests, body, right, clause, program, EndsTests, EndsRight, EndsClause, EndsProgram, FoundAt, Fault, call_of, item_of, tests_of, goals_of, right_of, clause_of, Trees, Goal, Value}
use Rattle.ghc_reader.specs.declared.token.Token.TheVariants as token
use Rattle.ghc_reader.specs.Source as tree
use Rattle.ghc_reader.proofs.OneGoal.{as_tests, tests_body}
use Rattle.ghc_reader.proofs.GoalLoops.{TestsSoFar, ends_at_last_test, ClausesSoFar}
use Rattle.ghc_reader.proofs.TermFounds.{ArgumentsFound}
use Rattle.ghc_reader.proofs.GoalFounds.{BodyFound, call_is, not_none}
use Rattle.ghc_reader.proofs.ClauseFaults as faults

abbrev pub TestsFound : List Token → List tree.Test → List Token → Type 0
TestsFound = FoundAt Tests (List tree.Test) tests tests_of EndsTests

pub found_tests : (ts behind : List Token) (a : List tree.Test) → TestsSoFar ts a behind → ¬ Begins Comma behind → TestsFound ts a behind
found_tests ts behind a x n = record { derivation = x.so_far; spelled = x.spelled; sees = x.sees; stops = ends_at_last_test x.so_far (first behind) x.stops n }

abbrev pub RightFound : List Token → tree.Right → List Token → Type 0
RightFound = FoundAt Right tree.Right right right_of EndsRight

abbrev pub RightFault : List Token → ℕ → Type 0
RightFault = Fault Right right EndsRight

abbrev pub ClauseFound : List Token → tree.Clause → List Token → Type 0
ClauseFound = FoundAt Clause tree.Clause clause clause_of EndsClause

abbrev pub ClauseFault : List Token → ℕ → Type 0
ClauseFault = Fault Clause clause EndsClause

-- tests of which none is a comparison are a body
as_goals : (t : Tests) (ts : List Token) (gs : List Goal) → tests_of t ts ≡ tree.plains gs → (b : Body) × (t ≡ as_tests b) × (goals_of b ts ≡ gs)
as_goals (last_test (plain_test i)) ts (g ∷ []) e = (last i, refl, cc)
as_goals (next_test (plain_test i) x) ts (g ∷ gs) e =
    let tail : tests_of x ts ≡ tree.plains gs = cc in
    let head : item_of i (token.Mark Comma ∷ tests x ts) ≡ g = cc in
    let r = as_goals x ts gs tail in
    let inside : tests x ts ≡ body r.0 ts = ap (λ y. tests y ts) r.1 ∙ tests_body r.0 ts in (
      next i r.0,
      ap (next_test (plain_test i)) r.1,
      ap (λ l. item_of i (token.Mark Comma ∷ l) ∷ goals_of r.0 ts) (sym inside) ∙ ap (λ y. y ∷ goals_of r.0 ts) head ∙ ap (λ l. g ∷ l) r.2,
    )
as_goals (last_test (compare a o b)) ts (g ∷ gs) e = cc
as_goals (next_test (compare a o b) x) ts (g ∷ gs) e = cc
as_goals t ts gs e = cc

tests_of_body : (b : Body) (ts : List Token) → tests_of (as_tests b) ts ≡ tree.plains (goals_of b ts)
tests_of_body (last i) ts = refl
tests_of_body (next i b) ts =
    ap (λ l. tree.plain (item_of i (token.Mark Comma ∷ l)) ∷ tests_of (as_tests b) ts) (tests_body b ts)
    ∙ ap (λ l. tree.plain (item_of i (token.Mark Comma ∷ body b ts)) ∷ l) (tests_of_body b ts)

-- a right side
abbrev right_side : List tree.Test → List Goal → tree.Right
right_side guard goals = record { guard = guard; body = goals }

-- a clause
abbrev made_clause : tree.Call → tree.Right → tree.Clause
made_clause head right = record { head = head; guard = right.guard; body = right.body }

pub found_unguarded : (ts behind after : List Token) (a : List tree.Test) (gs : List Goal) → TestsFound ts a behind → behind ≡ token.Mark Stop ∷ after → a ≡ tree.plains gs → RightFound ts (record { guard = []; body = gs }) after
found_unguarded ts behind after a gs x e f =
    let r = as_goals x.derivation behind gs (x.sees ∙ f) in
    record {
      derivation = unguarded r.0;
      spelled = x.spelled ∙ ap (tests x.derivation) e ∙ ap (λ t. tests t (token.Mark Stop ∷ after)) r.1 ∙ tests_body r.0 (token.Mark Stop ∷ after);
      sees = ap (right_side []) (ap (goals_of r.0) (sym e) ∙ r.2);
      stops = tt;
    }

pub found_guarded : (ts behind inside rest after : List Token) (a : List tree.Test) (gs : List Goal) → TestsFound ts a behind → behind ≡ token.Mark Bar ∷ inside → BodyFound inside gs rest → rest ≡ token.Mark Stop ∷ after → RightFound ts (record { guard = a; body = gs }) after
found_guarded ts behind inside rest after a gs x e y f =
    let last_part : inside ≡ body y.derivation (token.Mark Stop ∷ after) = y.spelled ∙ ap (body y.derivation) f in
    let part : behind ≡ token.Mark Bar ∷ body y.derivation (token.Mark Stop ∷ after) = e ∙ ap (λ l. token.Mark Bar ∷ l) last_part in
    record {
      derivation = guarded x.derivation y.derivation;
      spelled = x.spelled ∙ ap (tests x.derivation) part;
      sees = ap (λ l. right_side l (goals_of y.derivation (token.Mark Stop ∷ after))) (ap (tests_of x.derivation) (sym part) ∙ x.sees) ∙ ap (right_side a) (ap (goals_of y.derivation) (sym f) ∙ y.sees);
      stops = tt;
    }

-- a full stop after tests of which one is a comparison
pub at_stop : (ts behind after : List Token) (a : List tree.Test) → TestsFound ts a behind → behind ≡ token.Mark Stop ∷ after → ((gs : List Goal) → a ≢ tree.plains gs) → RightFault ts (length behind)
at_stop ts behind after a x e n =
    subst (λ l. RightFault l (length behind)) (sym x.spelled)
    (faults.bar_missing x.derivation behind x.stops (λ h. let same = ap first e in cc) (λ b same h. n (goals_of b behind) (sym x.sees ∙ ap (λ t. tests_of t behind) same ∙ tests_of_body b behind)))

pub at_bar : (ts behind : List Token) (a : List tree.Test) → TestsFound ts a behind → ¬ Begins Stop behind → ¬ Begins Bar behind → RightFault ts (length behind)
at_bar ts behind a x n m = rw x.spelled (faults.bar_missing x.derivation behind x.stops m (λ b same. n))

pub at_body_stop : (ts behind inside rest : List Token) (a : List tree.Test) (gs : List Goal) → TestsFound ts a behind → behind ≡ token.Mark Bar ∷ inside → BodyFound inside gs rest → ¬ Begins Stop rest → RightFault ts (length rest)
at_body_stop ts behind inside rest a gs x e y n = rw (x.spelled, e, y.spelled) (faults.stop_missing x.derivation y.derivation rest y.stops n)

pub found_fact : (ts behind rest after : List Token) (n : ℕ) (f : List ℕ) (a : Trees) → n ≡ length ts → ts ≡ token.Name f ∷ behind → ArgumentsFound behind a rest → rest ≡ token.Mark Stop ∷ after → ClauseFound ts (record { head = record { left = n; name = f; arguments = a }; guard = []; body = [] }) after
found_fact ts behind rest after n f a m e x h = record {
  derivation = fact f x.derivation;
  spelled = e ∙ ap (λ l. token.Name f ∷ l) (x.spelled ∙ ap (arguments x.derivation) h);
  sees = ap (λ c. made_clause c (right_side [] [])) (ap (call_of f x.derivation) (sym h) ∙ call_is ts behind rest n f a m e x);
  stops = tt;
}

pub found_rule : (ts behind rest inside after : List Token) (n : ℕ) (f : List ℕ) (a : Trees) (r : tree.Right) → n ≡ length ts → ts ≡ token.Name f ∷ behind → ArgumentsFound behind a rest → rest ≡ token.Mark Define ∷ inside → RightFound inside r after → ClauseFound ts (record { head = record { left = n; name = f; arguments = a }; guard = r.guard; body = r.body }) after
found_rule ts behind rest inside after n f a r m e x h y =
    let part : rest ≡ token.Mark Define ∷ right y.derivation after = h ∙ ap (λ l. token.Mark Define ∷ l) y.spelled in
    record {
      derivation = rule f x.derivation y.derivation;
      spelled = e ∙ ap (λ l. token.Name f ∷ l) (x.spelled ∙ ap (arguments x.derivation) part);
      sees = ap (λ c. made_clause c (right_of y.derivation after)) (ap (call_of f x.derivation) (sym part) ∙ call_is ts behind rest n f a m e x) ∙ ap (made_clause (record { left = n; name = f; arguments = a })) y.sees;
      stops = tt;
    }

pub at_define : (ts behind rest : List Token) (f : List ℕ) (a : Trees) → ts ≡ token.Name f ∷ behind → ArgumentsFound behind a rest → ¬ Begins Stop rest → ¬ Begins Define rest → ClauseFault ts (length rest)
at_define ts behind rest f a e x n m = rw (e, x.spelled) (faults.define_missing f x.derivation rest x.stops n m)

pub in_right_side : (ts behind rest inside : List Token) (f : List ℕ) (a : Trees) (left : ℕ) → ts ≡ token.Name f ∷ behind → ArgumentsFound behind a rest → rest ≡ token.Mark Define ∷ inside → RightFault inside left → ClauseFault ts left
in_right_side ts behind rest inside f a left e x h y = rw (e, x.spelled, h) (faults.right_in_clause f x.derivation inside left y)

pub in_clause : (ts behind : List Token) (a : List tree.Clause) (left : ℕ) → ClausesSoFar ts a behind → behind ≢ [] → ClauseFault behind left → Fault Program program EndsProgram ts left
in_clause ts behind a left x n f = rw x.spelled (faults.clause_in_program x.so_far behind left (not_none behind n) f)

-- a comparison is no goal
pub no_goals : (xs ys : List tree.Test) (a b : Value) (o : Comparison) (gs : List Goal) → (xs ++ tree.compare a o b ∷ []) ++ ys ≢ tree.plains gs
no_goals (x ∷ xs) ys a b o (g ∷ gs) e = let tail : (xs ++ tree.compare a o b ∷ []) ++ ys ≡ tree.plains gs = cc in no_goals xs ys a b o gs tail
no_goals [] ys a b o (g ∷ gs) e = cc
no_goals xs ys a b o gs e = cc
