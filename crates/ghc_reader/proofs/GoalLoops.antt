-- What the loops over goals, tests and clauses keep.
use Rattle.ghc_reader.proofs.Words.{◌≡◌, ◌≢◌, List, [], ◌∷◌, ◌++◌, Option, Some, refl, sym, ap, ◌∙◌, Comma, Token, first, Item, Test, Tests, last_test, next_test, Body, last, next, Clause, Program, done, clauses, item, test, tests, body, clause, program, EndsItem, EndsTest, EndsTests, EndsBody, EndsClause, FoundAt, item_of, test_of, tests_of, goals_of, clause_of, clauses_of, map_push, SourceGoal, SourceTest, SourceClause, Goal, goal_view, goal_views, test_view, test_views, clause_view, clause_views}
use Rattle.ghc_reader.specs.declared.token.Token.TheVariants as token
use Rattle.ghc_reader.specs.Source as tree
use Rattle.ghc_reader.proofs.GoalFaults.{and_then, body_and_then}
use Rattle.ghc_reader.proofs.TestFaults.{and_also, tests_and_also}
use Rattle.ghc_reader.proofs.ClauseFaults.{and_clause, program_and}

-- the last goal is whole, and a comma may follow it
abbrev pub LastItemEnds : Body → Option Token → Type 0
LastItemEnds (last i) o = EndsItem i o
LastItemEnds (next i x) o = LastItemEnds x o

-- the goals read so far
pub record BodySoFar (ts : List Token) (seen : List Goal) (behind : List Token) : Type 0 where
  pub so_far : Body
  pub spelled : ts ≡ body so_far behind
  pub sees : goals_of so_far behind ≡ seen
  pub stops : LastItemEnds so_far (first behind)

pub ends_at_last_item : (x : Body) (o : Option Token) → LastItemEnds x o → o ≢ Some (token.Mark Comma) → EndsBody x o
ends_at_last_item (last i) o h n = (h, n)
ends_at_last_item (next i x) o h n = ends_at_last_item x o h n

last_and_then : (x : Body) (j : Item) (o : Option Token) → EndsItem j o → LastItemEnds (and_then x j) o
last_and_then (last i) j o h = h
last_and_then (next i x) j o h = last_and_then x j o h

goals_and_then : (x : Body) (j : Item) (ts : List Token) → goals_of (and_then x j) ts ≡ goals_of x (token.Mark Comma ∷ item j ts) ++ item_of j ts ∷ []
goals_and_then (last i) j ts = refl
goals_and_then (next i x) j ts =
    ap (λ l. item_of i (token.Mark Comma ∷ l) ∷ goals_of (and_then x j) ts) (body_and_then x j ts)
    ∙ ap (λ l. item_of i (token.Mark Comma ∷ body x (token.Mark Comma ∷ item j ts)) ∷ l) (goals_and_then x j ts)

pub body_one : (ts behind : List Token) (a : List SourceGoal) (u : SourceGoal) → a ≡ u ∷ [] → FoundAt Item Goal item item_of EndsItem ts (goal_view u) behind → BodySoFar ts (goal_views a) behind
body_one ts behind a u e x = record {
  so_far = last x.derivation;
  spelled = x.spelled;
  sees = ap (λ t. t ∷ []) x.sees ∙ sym (ap goal_views e);
  stops = x.stops;
}

pub body_more : (ts comma inside behind : List Token) (a b : List SourceGoal) (u : SourceGoal) → BodySoFar ts (goal_views a) comma → comma ≡ token.Mark Comma ∷ inside → b ≡ a ++ u ∷ [] → FoundAt Item Goal item item_of EndsItem inside (goal_view u) behind → BodySoFar ts (goal_views b) behind
body_more ts comma inside behind a b u x e f y =
    let middle : comma ≡ token.Mark Comma ∷ item y.derivation behind = e ∙ ap (λ l. token.Mark Comma ∷ l) y.spelled in
    record {
      so_far = and_then x.so_far y.derivation;
      spelled = x.spelled ∙ ap (body x.so_far) middle ∙ sym (body_and_then x.so_far y.derivation behind);
      sees = goals_and_then x.so_far y.derivation behind
          ∙ ap (λ t. goals_of x.so_far (token.Mark Comma ∷ item y.derivation behind) ++ t ∷ []) y.sees
          ∙ ap (λ t. t ++ goal_view u ∷ []) (ap (goals_of x.so_far) (sym middle) ∙ x.sees)
          ∙ sym (ap goal_views f ∙ map_push goal_view a u);
      stops = last_and_then x.so_far y.derivation (first behind) y.stops;
    }

-- the last test is whole, and a comma may follow it
abbrev pub LastTestEnds : Tests → Option Token → Type 0
LastTestEnds (last_test i) o = EndsTest i o
LastTestEnds (next_test i x) o = LastTestEnds x o

-- the tests read so far
pub record TestsSoFar (ts : List Token) (seen : List tree.Test) (behind : List Token) : Type 0 where
  pub so_far : Tests
  pub spelled : ts ≡ tests so_far behind
  pub sees : tests_of so_far behind ≡ seen
  pub stops : LastTestEnds so_far (first behind)

pub ends_at_last_test : (x : Tests) (o : Option Token) → LastTestEnds x o → o ≢ Some (token.Mark Comma) → EndsTests x o
ends_at_last_test (last_test i) o h n = (h, n)
ends_at_last_test (next_test i x) o h n = ends_at_last_test x o h n

last_and_also : (x : Tests) (j : Test) (o : Option Token) → EndsTest j o → LastTestEnds (and_also x j) o
last_and_also (last_test i) j o h = h
last_and_also (next_test i x) j o h = last_and_also x j o h

tests_of_and : (x : Tests) (j : Test) (ts : List Token) → tests_of (and_also x j) ts ≡ tests_of x (token.Mark Comma ∷ test j ts) ++ test_of j ts ∷ []
tests_of_and (last_test i) j ts = refl
tests_of_and (next_test i x) j ts =
    ap (λ l. test_of i (token.Mark Comma ∷ l) ∷ tests_of (and_also x j) ts) (tests_and_also x j ts)
    ∙ ap (λ l. test_of i (token.Mark Comma ∷ tests x (token.Mark Comma ∷ test j ts)) ∷ l) (tests_of_and x j ts)

pub tests_one : (ts behind : List Token) (a : List SourceTest) (u : SourceTest) → a ≡ u ∷ [] → FoundAt Test tree.Test test test_of EndsTest ts (test_view u) behind → TestsSoFar ts (test_views a) behind
tests_one ts behind a u e x = record {
  so_far = last_test x.derivation;
  spelled = x.spelled;
  sees = ap (λ t. t ∷ []) x.sees ∙ sym (ap test_views e);
  stops = x.stops;
}

pub tests_more : (ts comma inside behind : List Token) (a b : List SourceTest) (u : SourceTest) → TestsSoFar ts (test_views a) comma → comma ≡ token.Mark Comma ∷ inside → b ≡ a ++ u ∷ [] → FoundAt Test tree.Test test test_of EndsTest inside (test_view u) behind → TestsSoFar ts (test_views b) behind
tests_more ts comma inside behind a b u x e f y =
    let middle : comma ≡ token.Mark Comma ∷ test y.derivation behind = e ∙ ap (λ l. token.Mark Comma ∷ l) y.spelled in
    record {
      so_far = and_also x.so_far y.derivation;
      spelled = x.spelled ∙ ap (tests x.so_far) middle ∙ sym (tests_and_also x.so_far y.derivation behind);
      sees = tests_of_and x.so_far y.derivation behind
          ∙ ap (λ t. tests_of x.so_far (token.Mark Comma ∷ test y.derivation behind) ++ t ∷ []) y.sees
          ∙ ap (λ t. t ++ test_view u ∷ []) (ap (tests_of x.so_far) (sym middle) ∙ x.sees)
          ∙ sym (ap test_views f ∙ map_push test_view a u);
      stops = last_and_also x.so_far y.derivation (first behind) y.stops;
    }

-- the clauses read so far
pub record ClausesSoFar (ts : List Token) (seen : List tree.Clause) (behind : List Token) : Type 0 where
  pub so_far : Program
  pub spelled : ts ≡ program so_far behind
  pub sees : clauses_of so_far behind ≡ seen

clauses_and : (x : Program) (d : Clause) (ts : List Token) → clauses_of (and_clause x d) ts ≡ clauses_of x (clause d ts) ++ clause_of d ts ∷ []
clauses_and done d ts = refl
clauses_and (clauses c p) d ts =
    ap (λ l. clause_of c l ∷ clauses_of (and_clause p d) ts) (program_and p d ts)
    ∙ ap (λ l. clause_of c (program p (clause d ts)) ∷ l) (clauses_and p d ts)

pub clauses_more : (ts middle behind : List Token) (a b : List SourceClause) (u : SourceClause) → ClausesSoFar ts (clause_views a) middle → b ≡ a ++ u ∷ [] → FoundAt Clause tree.Clause clause clause_of EndsClause middle (clause_view u) behind → ClausesSoFar ts (clause_views b) behind
clauses_more ts middle behind a b u x f y = record {
  so_far = and_clause x.so_far y.derivation;
  spelled = x.spelled ∙ ap (program x.so_far) y.spelled ∙ sym (program_and x.so_far y.derivation behind);
  sees = clauses_and x.so_far y.derivation behind
      ∙ ap (λ t. clauses_of x.so_far (clause y.derivation behind) ++ t ∷ []) y.sees
      ∙ ap (λ t. t ++ clause_view u ∷ []) (ap (clauses_of x.so_far) (sym y.spelled) ∙ x.sees)
      ∙ sym (ap clause_views f ∙ map_push clause_view a u);
}
