-- A fault in a part of a test is one of the tests.
use Rattle.ghc_reader.proofs.Words.{◌≡◌, ◌≢◌, ℕ, List, [], ◌∷◌, ◌++◌, length, Option, Some, None, true, false, refl, sym, ap, ◌∙◌, subst, append_assoc, ◌⊎◌, inl, inr, ⊎_elim, Comparison, Less, Sum, Product, OpenList, Comma, Equals, Token, first, second, item_like, like, like_equation, like_assignment, variable, integer, factor, factors, Expression, summand, summands, Item, unify, Test, plain_test, compare, Tests, last_test, next_test, rest, expression, item, test, tests, EndsExpression, EndsItem, EndsTest, EndsTests, Fault}
use Rattle.ghc_reader.specs.declared.token.Token.TheVariants as token
use Rattle.ghc_reader.specs.Grammar.{number, named}
use Rattle.ghc_reader.proofs.Append.{some_variable, expression_append, test_append, tests_append}
use Rattle.ghc_reader.proofs.Ends.{comparison_ends}
use Rattle.ghc_reader.proofs.OneExpression.{one_expression}
use Rattle.ghc_reader.proofs.OneGoal.{comma_ends_test, no_comparison, one_test}
use Rattle.ghc_reader.proofs.Faults.{first_append, in_front, inside, here}

-- the first two tokens tell an item from a comparison
item_likes : (i : Item) (r : List Token) → item_like (item i r) ≡ true
item_likes (unify (variable v) t) r = refl
item_likes i r = refl

comparison_likes : (c : Expression) (o : Comparison) (r : List Token) → item_like (expression c (token.Comparison o ∷ r)) ≡ false
comparison_likes (summand (factor (number n))) o r = refl
comparison_likes (summand (factors (number n) k x)) o r = refl
comparison_likes (summands (factor (number n)) j c) o r = refl
comparison_likes (summands (factors (number n) k x) j c) o r = refl
comparison_likes c o r = refl

-- with one or more tokens in front, the second one depends on the first of the rest alone
second_append : (front a b : List Token) → front ≢ [] → first a ≡ first b → second (front ++ a) ≡ second (front ++ b)
second_append [] a b n e = absurd (n refl)
second_append (t ∷ ts) a b n e = first_append ts a b e

likes_append : (front a b : List Token) → front ≢ [] → first a ≡ first b → item_like (front ++ a) ≡ item_like (front ++ b)
likes_append front a b n e =
    ap (λ o. like o (second (front ++ a))) (first_append front a b e) ∙ ap (λ o. like (first (front ++ b)) o) (second_append front a b n e)

-- a fault in an item stands after the first token, where a comparison can begin with that token
abbrev BeginsBoth : Option Token → Type 0
BeginsBoth None = ⊥
BeginsBoth (Some (token.Variable v)) = Unit {0}
BeginsBoth (Some (token.Integer n)) = Unit {0}
BeginsBoth (Some _) = ⊥

item_front : (ts : List Token) (left : ℕ) (f : Fault Item item EndsItem ts left) → BeginsBoth (first ts) → f.front ≢ []
item_front (token.Variable v ∷ ts) left f b h =
    f.stuck (token.Variable v ∷ token.Mark Equals ∷ token.Variable some_variable ∷ []) (ap first (f.split ∙ ap (λ l. l ++ f.rest) h)) (unify (variable v) (variable some_variable)) [] tt (ap (λ l. l ++ (token.Variable v ∷ token.Mark Equals ∷ token.Variable some_variable ∷ [])) h)
item_front (token.Integer n ∷ ts) left f b h =
    f.stuck (token.Integer n ∷ token.Mark Equals ∷ token.Variable some_variable ∷ []) (ap first (f.split ∙ ap (λ l. l ++ f.rest) h)) (unify (integer n) (variable some_variable)) [] tt (ap (λ l. l ++ (token.Integer n ∷ token.Mark Equals ∷ token.Variable some_variable ∷ [])) h)
item_front ts left f b h = absurd b

expression_front : (ts : List Token) (left : ℕ) (f : Fault Expression expression EndsExpression ts left) → BeginsBoth (first ts) → f.front ≢ []
expression_front (token.Variable v ∷ ts) left f b h =
    f.stuck (token.Variable v ∷ []) (ap first (f.split ∙ ap (λ l. l ++ f.rest) h)) (summand (factor (named v))) [] (record { product = λ k e. cc; sum = λ k e. cc }) (ap (λ l. l ++ (token.Variable v ∷ [])) h)
expression_front (token.Integer n ∷ ts) left f b h =
    f.stuck (token.Integer n ∷ []) (ap first (f.split ∙ ap (λ l. l ++ f.rest) h)) (summand (factor (number n))) [] (record { product = λ k e. cc; sum = λ k e. cc }) (ap (λ l. l ++ (token.Integer n ∷ [])) h)
expression_front ts left f b h = absurd b

-- each token begins items alone, comparisons alone, both or none
mutual_first : (o : Option Token) → BeginsBoth o ⊎ ((a b : Option Token) → like o a ≡ like o b)
mutual_first (Some (token.Variable v)) = inl tt
mutual_first (Some (token.Integer n)) = inl tt
mutual_first (Some (token.Mark OpenList)) = inr (λ a b. refl)
mutual_first o = inr (λ a b. refl)

-- so where a front is none only if it may be, the two texts are alike
same_likes : (ts front rest us : List Token) → ts ≡ front ++ rest → first us ≡ first rest → (BeginsBoth (first ts) → front ≢ []) → item_like (front ++ us) ≡ item_like ts
same_likes ts front rest us split same n =
    ⊎_elim
    (λ b. likes_append front us rest (n b) same ∙ ap item_like (sym split))
    (λ f. ap (λ o. like o (second (front ++ us))) (first_append front us rest same ∙ ap first (sym split)) ∙ f (second (front ++ us)) (second ts))
    (mutual_first (first ts))

pub item_in_test : (ts : List Token) (left : ℕ) → item_like ts ≡ true → Fault Item item EndsItem ts left → Fault Test test EndsTest ts left
item_in_test ts left l f = record {
  front = f.front;
  rest = f.rest;
  split = f.split;
  count = f.count;
  goes_on = (plain_test f.goes_on.0, f.goes_on.1, f.goes_on.2);
  stuck = λ us same d r p e. by_test us same d r p e;
}
  where
    by_test : (us : List Token) → first us ≡ first f.rest → (d : Test) (r : List Token) → EndsTest d (first r) → f.front ++ us ≡ test d r → ⊥
    by_test us same (plain_test i) r p e = f.stuck us same i r p e
    by_test us same (compare x o y) r p e =
        let like_both : true ≡ false = sym (same_likes ts f.front f.rest us f.split same (item_front ts left f) ∙ l) ∙ (ap item_like e ∙ comparison_likes x o (expression y r)) in cc

pub left_in_test : (ts : List Token) (left : ℕ) → item_like ts ≡ false → Fault Expression expression EndsExpression ts left → Fault Test test EndsTest ts left
left_in_test ts left l f = record {
  front = f.front;
  rest = f.rest;
  split = f.split;
  count = f.count;
  goes_on = let c = f.goes_on in (
    compare c.0 Less (summand (factor (named some_variable))),
    c.1 ++ (token.Comparison Less ∷ token.Variable some_variable ∷ []),
    sym (append_assoc f.front c.1 (token.Comparison Less ∷ token.Variable some_variable ∷ [])) ∙ ap (λ m. m ++ (token.Comparison Less ∷ token.Variable some_variable ∷ [])) c.2 ∙ sym (expression_append c.0 [] (token.Comparison Less ∷ token.Variable some_variable ∷ [])),
  );
  stuck = λ us same d r p e. by_test us same d r p e;
}
  where
    by_test : (us : List Token) → first us ≡ first f.rest → (d : Test) (r : List Token) → EndsTest d (first r) → f.front ++ us ≡ test d r → ⊥
    by_test us same (plain_test i) r p e =
        let like_both : false ≡ true = sym (same_likes ts f.front f.rest us f.split same (expression_front ts left f) ∙ l) ∙ (ap item_like e ∙ item_likes i r) in cc
    by_test us same (compare x o y) r p e = f.stuck us same x (token.Comparison o ∷ expression y r) (comparison_ends o x) e

-- the first two tokens, where those after an expression change but for the first
expression_likes : (c : Expression) (a b : List Token) → first a ≡ first b → item_like (expression c a) ≡ item_like (expression c b)
expression_likes (summand (factor (number n))) a b e = ap like_equation e
expression_likes (summand (factor (named v))) a b e = ap like_assignment e
expression_likes (summand (factors (number n) k x)) a b e = refl
expression_likes (summands (factor (number n)) j c) a b e = refl
expression_likes (summands (factors (number n) k x) j c) a b e = refl
expression_likes c a b e = refl

same_ends : (x : Expression) (a b : Option Token) → a ≡ b → EndsExpression x b → EndsExpression x a
same_ends x a b e p = record { product = subst (λ o. (k : Product) → o ≢ Some (token.Product k)) (sym e) p.product; sum = subst (λ o. (k : Sum) → o ≢ Some (token.Sum k)) (sym e) p.sum }

pub comparison_missing : (x : Expression) (ts : List Token) → item_like (expression x ts) ≡ false → EndsExpression x (first ts) → ((o : Comparison) → first ts ≢ Some (token.Comparison o)) → Fault Test test EndsTest (expression x ts) (length ts)
comparison_missing x ts l p n =
    here Test test EndsTest (λ l. expression x l) ts (λ a b. expression_append x a b) (compare x Less (summand (factor (named some_variable)))) (token.Comparison Less ∷ token.Variable some_variable ∷ []) refl (λ us same d r q e. by_test us same d r q e)
  where
    by_test : (us : List Token) → first us ≡ first ts → (d : Test) (r : List Token) → EndsTest d (first r) → expression x us ≡ test d r → ⊥
    by_test us same (plain_test i) r q e =
        let like_both : false ≡ true = sym (expression_likes x us ts same ∙ l) ∙ (ap item_like e ∙ item_likes i r) in cc
    by_test us same (compare y o z) r q e =
        let s = one_expression x y us (token.Comparison o ∷ expression z r) (same_ends x (first us) (first ts) same p) (comparison_ends o y) e in
        n o (sym same ∙ ap first s.behind)

right_of_test : (x : Expression) (o : Comparison) (d : Test) (us r : List Token) → EndsTest d (first r) → expression x (token.Comparison o ∷ us) ≡ test d r → (c : Expression) × EndsExpression c (first r) × (us ≡ expression c r)
right_of_test x o (plain_test i) us r p e = absurd (no_comparison i r x o us (sym e))
right_of_test x o (compare y k z) us r p e =
    let s = one_expression x y (token.Comparison o ∷ us) (token.Comparison k ∷ expression z r) (comparison_ends o x) (comparison_ends k y) e in
    (z, p, cc)

pub right_in_test : (x : Expression) (o : Comparison) (ts : List Token) (left : ℕ) → Fault Expression expression EndsExpression ts left → Fault Test test EndsTest (expression x (token.Comparison o ∷ ts)) left
right_in_test x o ts left f =
    inside (λ l. expression x (token.Comparison o ∷ l)) f (λ a b. expression_append x (token.Comparison o ∷ a) b) expression_append
    (λ c. (compare x o c, [], refl))
    (λ us same d r p e. let y = right_of_test x o d us r p e in (y.0, r, y.1, y.2))

first_of_tests : (d : Tests) (us r : List Token) → EndsTests d (first r) → us ≡ tests d r → (c : Test) × (r' : List Token) × EndsTest c (first r') × (us ≡ test c r')
first_of_tests (last_test i) us r p e = (i, r, p.0, e)
first_of_tests (next_test i x) us r p e = (i, token.Mark Comma ∷ tests x r, comma_ends_test i, e)

pub first_in_tests : (ts : List Token) (left : ℕ) → Fault Test test EndsTest ts left → Fault Tests tests EndsTests ts left
first_in_tests ts left f =
    in_front f test_append (λ c. (last_test c, [], refl)) first_of_tests

-- one more test at the end
abbrev pub and_also : Tests → Test → Tests
and_also (last_test i) j = next_test i (last_test j)
and_also (next_test i x) j = next_test i (and_also x j)

pub tests_and_also : (x : Tests) (j : Test) (ts : List Token) → tests (and_also x j) ts ≡ tests x (token.Mark Comma ∷ test j ts)
tests_and_also (last_test i) j ts = refl
tests_and_also (next_test i x) j ts = ap (λ l. test i (token.Mark Comma ∷ l)) (tests_and_also x j ts)

-- the tests after a first one
others_of_tests : (i : Test) (d : Tests) (us r : List Token) → EndsTests d (first r) → test i (token.Mark Comma ∷ us) ≡ tests d r
    → (y : Tests) × (r' : List Token) × EndsTests y (first r') × (us ≡ tests y r')
others_of_tests i (last_test j) us r p e =
    let s = one_test i j (token.Mark Comma ∷ us) r (comma_ends_test i) p.0 e in absurd (p.1 (sym (ap first s.behind)))
others_of_tests i (next_test j y) us r p e =
    let s = one_test i j (token.Mark Comma ∷ us) (token.Mark Comma ∷ tests y r) (comma_ends_test i) (comma_ends_test j) e in
    (y, r, p, cc)

behind_first : (i : Test) (ts : List Token) (left : ℕ) → Fault Tests tests EndsTests ts left → Fault Tests tests EndsTests (test i (token.Mark Comma ∷ ts)) left
behind_first i ts left f =
    inside (λ l. test i (token.Mark Comma ∷ l)) f (λ a b. test_append i (token.Mark Comma ∷ a) b) tests_append (λ c. (next_test i c, [], refl))
    (λ us same d r p e. others_of_tests i d us r p e)

pub next_in_tests : (x : Tests) (ts : List Token) (left : ℕ) → Fault Test test EndsTest ts left → Fault Tests tests EndsTests (tests x (token.Mark Comma ∷ ts)) left
next_in_tests (last_test i) ts left f = behind_first i ts left (first_in_tests ts left f)
next_in_tests (next_test i x) ts left f = behind_first i (tests x (token.Mark Comma ∷ ts)) left (next_in_tests x ts left f)
