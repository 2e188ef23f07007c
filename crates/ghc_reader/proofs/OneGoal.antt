-- No text has two derivations as goals or tests.
use Rattle.ghc_reader.proofs.Words.{◌≡◌, List, ◌∷◌, Some, refl, sym, ap, Comparison, OpenList, Comma, Equals, Assign, Token, first, variable, integer, call, list, Expression, Item, goal, unify, assign, Test, plain_test, compare, Tests, last_test, next_test, Body, last, next, term, arguments, rest, expression, item, test, tests, body, EndsItem, EndsTest, EndsTests, EndsBody}
use Rattle.ghc_reader.specs.declared.token.Token.TheVariants as token
use Rattle.ghc_reader.proofs.Ends.{ends_item, ends_test, comparison_ends}
use Rattle.ghc_reader.proofs.OneTerm.{Same, equals_ends, one_term, one_arguments}
use Rattle.ghc_reader.proofs.OneExpression.{one_expression, alone, no_expression}

pub one_item : (c d : Item) (a b : List Token) → EndsItem c (first a) → EndsItem d (first b) → item c a ≡ item d b → Same c d a b
one_item (goal f x) (goal h y) a b p q e =
    let s = one_arguments x y a b p.0 q.0 (cc) in
    record { derivation = cc; behind = s.behind }
one_item (goal f x) (unify t u) a b p q e =
    let s = one_term (call f x) t a (token.Mark Equals ∷ term u b) p.0 (equals_ends t) e in absurd (p.1 (ap first s.behind))
one_item (unify s t) (goal h y) a b p q e =
    let s = one_term s (call h y) (token.Mark Equals ∷ term t a) b (equals_ends s) q.0 e in absurd (q.1 (sym (ap first s.behind)))
one_item (unify s t) (unify u v) a b p q e =
    let x = one_term s u (token.Mark Equals ∷ term t a) (token.Mark Equals ∷ term v b) (equals_ends s) (equals_ends u) e in
    let y = one_term t v a b p q (cc) in
    record { derivation = cc; behind = y.behind }
one_item (unify s t) (assign v y) a b p q e =
    let x = one_term s (variable v) (token.Mark Equals ∷ term t a) (token.Mark Assign ∷ expression y b) (equals_ends s) tt e in
    cc
one_item (assign v x) (unify s t) a b p q e =
    let y = one_term (variable v) s (token.Mark Assign ∷ expression x a) (token.Mark Equals ∷ term t b) tt (equals_ends s) e in
    cc
one_item (assign v x) (assign w y) a b p q e =
    let s = one_expression x y a b p q (cc) in
    record { derivation = cc; behind = s.behind }
one_item c d a b p q e = cc

-- no item is a comparison
pub no_comparison : (i : Item) (a : List Token) (c : Expression) (o : Comparison) (l : List Token) → item i a ≡ expression c (token.Comparison o ∷ l) → ⊥
no_comparison (goal f x) a c o l e = no_expression (token.Name f) (arguments x a) tt c (token.Comparison o ∷ l) (sym e)
no_comparison (unify (variable v) t) a c o l e =
    let behind = alone c (token.Comparison o ∷ l) (term t a) (token.Variable v) (token.Mark Equals) (λ m h. cc) (λ k h. cc) (λ k h. cc) (sym e) in cc
no_comparison (unify (integer n) t) a c o l e =
    let behind = alone c (token.Comparison o ∷ l) (term t a) (token.Integer n) (token.Mark Equals) (λ m h. cc) (λ k h. cc) (λ k h. cc) (sym e) in cc
no_comparison (unify (call f x) t) a c o l e = no_expression (token.Name f) (arguments x (token.Mark Equals ∷ term t a)) tt c (token.Comparison o ∷ l) (sym e)
no_comparison (unify (list r) t) a c o l e = no_expression (token.Mark OpenList) (rest r (token.Mark Equals ∷ term t a)) (λ h. cc) c (token.Comparison o ∷ l) (sym e)
no_comparison (assign v x) a c o l e =
    let behind = alone c (token.Comparison o ∷ l) (expression x a) (token.Variable v) (token.Mark Assign) (λ m h. cc) (λ k h. cc) (λ k h. cc) (sym e) in cc

pub one_test : (c d : Test) (a b : List Token) → EndsTest c (first a) → EndsTest d (first b) → test c a ≡ test d b → Same c d a b
one_test (plain_test i) (plain_test j) a b p q e =
    let s = one_item i j a b p q e in record { derivation = ap plain_test s.derivation; behind = s.behind }
one_test (plain_test i) (compare x o y) a b p q e = absurd (no_comparison i a x o (expression y b) e)
one_test (compare x o y) (plain_test j) a b p q e = absurd (no_comparison j b x o (expression y a) (sym e))
one_test (compare x o y) (compare u k v) a b p q e =
    let s = one_expression x u (token.Comparison o ∷ expression y a) (token.Comparison k ∷ expression v b) (comparison_ends o x) (comparison_ends k u) e in
    let s2 = one_expression y v a b p q (cc) in
    record { derivation = cc; behind = s2.behind }

pub comma_ends_test : (c : Test) → EndsTest c (Some (token.Mark Comma))
comma_ends_test = ends_test Comma (λ h. cc) (λ h. cc)

pub one_tests : (c d : Tests) (a b : List Token) → EndsTests c (first a) → EndsTests d (first b) → tests c a ≡ tests d b → Same c d a b
one_tests (last_test i) (last_test j) a b p q e =
    let s = one_test i j a b p.0 q.0 e in record { derivation = ap last_test s.derivation; behind = s.behind }
one_tests (last_test i) (next_test j y) a b p q e =
    let s = one_test i j a (token.Mark Comma ∷ tests y b) p.0 (comma_ends_test j) e in absurd (p.1 (ap first s.behind))
one_tests (next_test i x) (last_test j) a b p q e =
    let s = one_test i j (token.Mark Comma ∷ tests x a) b (comma_ends_test i) q.0 e in absurd (q.1 (sym (ap first s.behind)))
one_tests (next_test i x) (next_test j y) a b p q e =
    let s = one_test i j (token.Mark Comma ∷ tests x a) (token.Mark Comma ∷ tests y b) (comma_ends_test i) (comma_ends_test j) e in
    let s2 = one_tests x y a b p q (cc) in
    record { derivation = cc; behind = s2.behind }

pub comma_ends_item : (c : Item) → EndsItem c (Some (token.Mark Comma))
comma_ends_item = ends_item Comma (λ h. cc) (λ h. cc)

pub one_body : (c d : Body) (a b : List Token) → EndsBody c (first a) → EndsBody d (first b) → body c a ≡ body d b → Same c d a b
one_body (last i) (last j) a b p q e =
    let s = one_item i j a b p.0 q.0 e in record { derivation = ap last s.derivation; behind = s.behind }
one_body (last i) (next j y) a b p q e =
    let s = one_item i j a (token.Mark Comma ∷ body y b) p.0 (comma_ends_item j) e in absurd (p.1 (ap first s.behind))
one_body (next i x) (last j) a b p q e =
    let s = one_item i j (token.Mark Comma ∷ body x a) b (comma_ends_item i) q.0 e in absurd (q.1 (sym (ap first s.behind)))
one_body (next i x) (next j y) a b p q e =
    let s = one_item i j (token.Mark Comma ∷ body x a) (token.Mark Comma ∷ body y b) (comma_ends_item i) (comma_ends_item j) e in
    let s2 = one_body x y a b p q (cc) in
    record { derivation = cc; behind = s2.behind }

-- each body is a list of tests
abbrev pub as_tests : Body → Tests
as_tests (last i) = last_test (plain_test i)
as_tests (next i x) = next_test (plain_test i) (as_tests x)

pub tests_body : (x : Body) (a : List Token) → tests (as_tests x) a ≡ body x a
tests_body (last i) a = refl
tests_body (next i x) a = ap (λ l. item i (token.Mark Comma ∷ l)) (tests_body x a)
