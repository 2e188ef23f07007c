-- The derivation of goals and tests, from those of their parts, and the faults after them.
use Rattle.ghc_reader.proofs.Words.{◌≡◌, ◌≢◌, ℕ, List, [], ◌∷◌, length, Some, None, false, sym, ap, ◌∙◌, subst, Comparison, Comma, Equals, Assign, Stop, Token, first, item_like, Begins, IsNotNamed, IsNotAssigned, Term, Item, goal, unify, assign, Test, plain_test, compare, Body, Query, plain, stopped, term, expression, item, test, body, query, EndsTerm, EndsItem, EndsTest, EndsBody, EndsQuery, FoundAt, Fault, tree_of, arguments_of, value_of, call_of, item_of, test_of, goals_of, query_of, Tree, Trees, Goal, Value, arith}
use Rattle.ghc_reader.specs.declared.token.Token.TheVariants as token
use Rattle.ghc_reader.specs.Source as tree
use Rattle.ghc_reader.proofs.GoalLoops.{BodySoFar, ends_at_last_item}
use Rattle.ghc_reader.proofs.TermFounds.{TermFound, ArgumentsFound}
use Rattle.ghc_reader.proofs.ExpressionFounds.{ExpressionFound}
use Rattle.ghc_reader.proofs.GoalFaults as faults
use Rattle.ghc_reader.proofs.TestFaults as test_faults
use Rattle.ghc_reader.proofs.QueryFaults as query_faults

abbrev pub TestFound : List Token → tree.Test → List Token → Type 0
TestFound = FoundAt Test tree.Test test test_of EndsTest

abbrev pub TestFault : List Token → ℕ → Type 0
TestFault = Fault Test test EndsTest

pub found_plain_test : (ts after : List Token) (a : Goal) → FoundAt Item Goal item item_of EndsItem ts a after → TestFound ts (tree.plain a) after
found_plain_test ts after a x = record { derivation = plain_test x.derivation; spelled = x.spelled; sees = ap tree.plain x.sees; stops = x.stops }

pub found_compare : (ts behind inside after : List Token) (a b : Value) (o : Comparison) → ExpressionFound ts a behind → behind ≡ token.Comparison o ∷ inside → ExpressionFound inside b after → TestFound ts (tree.compare a o b) after
found_compare ts behind inside after a b o x e y = record {
  derivation = compare x.derivation o y.derivation;
  spelled = x.spelled ∙ ap (expression x.derivation) (e ∙ ap (λ l. token.Comparison o ∷ l) y.spelled);
  sees = ap (λ l. tree.compare l o (value_of y.derivation)) x.sees ∙ ap (tree.compare a o) y.sees;
  stops = y.stops;
}

pub at_comparison : (ts behind : List Token) (a : Value) → item_like ts ≡ false → ExpressionFound ts a behind → ((o : Comparison) → first behind ≢ Some (token.Comparison o)) → TestFault ts (length behind)
at_comparison ts behind a l x n = rw x.spelled (test_faults.comparison_missing x.derivation behind (ap item_like (sym x.spelled) ∙ l) x.stops n)

abbrev pub ItemFound : List Token → Goal → List Token → Type 0
ItemFound = FoundAt Item Goal item item_of EndsItem

abbrev pub ItemFault : List Token → ℕ → Type 0
ItemFault = Fault Item item EndsItem

abbrev pub BodyFound : List Token → List Goal → List Token → Type 0
BodyFound = FoundAt Body (List Goal) body goals_of EndsBody

-- the call that was read, with its place
pub call_is : (ts behind after : List Token) (n : ℕ) (f : List ℕ) (a : Trees) → n ≡ length ts → ts ≡ token.Name f ∷ behind → (x : ArgumentsFound behind a after) → call_of f x.derivation after ≡ record { left = n; name = f; arguments = a }
call_is ts behind after n f a m e x =
    ap (λ l. let made : tree.Call = record { left = l; name = f; arguments = arguments_of x.derivation } in made) (sym (m ∙ ap length (e ∙ ap (λ l. token.Name f ∷ l) x.spelled)))
    ∙ ap (λ l. let made : tree.Call = record { left = n; name = f; arguments = l } in made) x.sees

pub found_goal : (ts behind after : List Token) (n : ℕ) (f : List ℕ) (a : Trees) → n ≡ length ts → ts ≡ token.Name f ∷ behind → ArgumentsFound behind a after → ¬ Begins Equals after → ItemFound ts (tree.call (record { left = n; name = f; arguments = a })) after
found_goal ts behind after n f a m e x none = record {
  derivation = goal f x.derivation;
  spelled = e ∙ ap (λ l. token.Name f ∷ l) x.spelled;
  sees = ap tree.call (call_is ts behind after n f a m e x);
  stops = (x.stops, none);
}

found_unify : (ts behind inside after : List Token) (s u : Tree) → TermFound ts s behind → behind ≡ token.Mark Equals ∷ inside → TermFound inside u after → ItemFound ts (tree.unify s u) after
found_unify ts behind inside after s u x e y = record {
  derivation = unify x.derivation y.derivation;
  spelled = x.spelled ∙ ap (term x.derivation) (e ∙ ap (λ l. token.Mark Equals ∷ l) y.spelled);
  sees = ap (λ l. tree.unify l (tree_of y.derivation)) x.sees ∙ ap (tree.unify s) y.sees;
  stops = y.stops;
}

-- the equation of the term that was read and the one that its mark stands before
pub found_equation : (ts behind inside after : List Token) (s : Tree) (g : Goal) → TermFound ts s behind → behind ≡ token.Mark Equals ∷ inside → (u : Tree) × (g ≡ tree.unify s u) × TermFound inside u after → ItemFound ts g after
found_equation ts behind inside after s g x e f = subst (λ g. ItemFound ts g after) (sym f.1) (found_unify ts behind inside after s f.0 x e f.2)

pub in_right : (ts behind inside : List Token) (s : Tree) (left : ℕ) → TermFound ts s behind → behind ≡ token.Mark Equals ∷ inside → Fault Term term EndsTerm inside left → ItemFault ts left
in_right ts behind inside s left x e f = rw (x.spelled, e) (faults.right_in_item x.derivation inside left f)

pub at_equals : (ts behind : List Token) (s : Tree) → TermFound ts s behind → IsNotNamed ts → IsNotAssigned ts → ¬ Begins Equals behind → ItemFault ts (length behind)
at_equals ts behind s x unnamed m n =
    subst (λ l. ItemFault l (length behind)) (sym x.spelled) (faults.equals_missing x.derivation behind (λ f q. unnamed f (ap first x.spelled ∙ q)) x.stops n
    (λ v same b. let all = rest_of behind b in m v all.0 (x.spelled ∙ ap (λ t. term t behind) same ∙ ap (λ l. token.Variable v ∷ l) all.1)))
  where
    rest_of : (l : List Token) → Begins Assign l → (r : List Token) × (l ≡ token.Mark Assign ∷ r)
    rest_of [] e = cc
    rest_of (t ∷ r) e = (r, cc)

pub found_assign : (ts inside after : List Token) (v : List ℕ) (a : Value) → ts ≡ token.Variable v ∷ token.Mark Assign ∷ inside → ExpressionFound inside a after → ItemFound ts (tree.assign v a) after
found_assign ts inside after v a e x = record {
  derivation = assign v x.derivation;
  spelled = e ∙ ap (λ l. token.Variable v ∷ token.Mark Assign ∷ l) x.spelled;
  sees = ap (tree.assign v) x.sees;
  stops = x.stops;
}

pub found_body : (ts behind : List Token) (a : List Goal) → BodySoFar ts a behind → ¬ Begins Comma behind → BodyFound ts a behind
found_body ts behind a x n = record { derivation = x.so_far; spelled = x.spelled; sees = x.sees; stops = ends_at_last_item x.so_far (first behind) x.stops n }

abbrev pub QueryFault : List Token → ℕ → Type 0
QueryFault = Fault Query query EndsQuery

pub found_plain : (ts behind : List Token) (a : List Goal) → BodyFound ts a behind → behind ≡ [] → (q : Query) × (ts ≡ query q []) × (query_of q [] ≡ a)
found_plain ts behind a x e = (plain x.derivation, x.spelled ∙ ap (body x.derivation) e, ap (goals_of x.derivation) (sym e) ∙ x.sees)

pub found_stopped : (ts behind after : List Token) (a : List Goal) → BodyFound ts a behind → behind ≡ token.Mark Stop ∷ after → after ≡ [] → (q : Query) × (ts ≡ query q []) × (query_of q [] ≡ a)
found_stopped ts behind after a x e f =
    let last_token : behind ≡ token.Mark Stop ∷ [] = e ∙ ap (λ l. token.Mark Stop ∷ l) f in
    (stopped x.derivation, x.spelled ∙ ap (body x.derivation) last_token, ap (goals_of x.derivation) (sym last_token) ∙ x.sees)

pub not_none : (ts : List Token) → ts ≢ [] → first ts ≢ None
not_none ts n e = grind arith

pub at_end : (ts behind : List Token) (a : List Goal) → BodyFound ts a behind → behind ≢ [] → ¬ Begins Stop behind → QueryFault ts (length behind)
at_end ts behind a x n m = rw x.spelled (query_faults.end_missing x.derivation behind x.stops (not_none behind n) m)

pub behind_stop : (ts behind after : List Token) (a : List Goal) → BodyFound ts a behind → behind ≡ token.Mark Stop ∷ after → after ≢ [] → QueryFault ts (length after)
behind_stop ts behind after a x e n = rw (x.spelled, e) (query_faults.more_behind_stop x.derivation after (not_none after n))
