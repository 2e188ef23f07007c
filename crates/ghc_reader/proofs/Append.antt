-- The tokens that follow a derivation stay after it.
use Rattle.ghc_reader.proofs.Words.{◌≡◌, ℕ, List, [], ◌∷◌, ◌++◌, refl, ap, ◌∙◌, Open, Close, OpenList, CloseList, Comma, Bar, Equals, Assign, Define, Stop, Token, Term, call, list, Arguments, without, within, Rest, closed, whole, partial, Terms, one, more, Operand, nested, Factors, factor, factors, Expression, summand, summands, Item, goal, unify, assign, Test, plain_test, compare, Tests, last_test, next_test, Body, last, next, Right, unguarded, guarded, Clause, fact, rule, term, arguments, rest, terms, operand, expression, item, test, tests, body, right, clause}
use Rattle.ghc_reader.specs.declared.token.Token.TheVariants as token
use Rattle.ghc_reader.specs.Grammar.{product}

-- a name, where an example needs one
abbrev pub some_name : List ℕ
some_name = 97 ∷ []

-- a variable, where an example needs one
abbrev pub some_variable : List ℕ
some_variable = 88 ∷ []

mutual
  pub term_append : (c : Term) (a b : List Token) → term c (a ++ b) ≡ term c a ++ b
  term_append (call f x) a b = ap (λ l. token.Name f ∷ l) (arguments_append x a b)
  term_append (list r) a b = ap (λ l. token.Mark OpenList ∷ l) (rest_append r a b)
  term_append c a b = refl

  pub arguments_append : (c : Arguments) (a b : List Token) → arguments c (a ++ b) ≡ arguments c a ++ b
  arguments_append without a b = refl
  arguments_append (within x) a b = ap (λ l. token.Mark Open ∷ l) (terms_append x (token.Mark Close ∷ a) b)

  pub rest_append : (c : Rest) (a b : List Token) → rest c (a ++ b) ≡ rest c a ++ b
  rest_append closed a b = refl
  rest_append (whole x) a b = terms_append x (token.Mark CloseList ∷ a) b
  rest_append (partial x t) a b =
      ap (λ l. terms x (token.Mark Bar ∷ l)) (term_append t (token.Mark CloseList ∷ a) b)
      ∙ terms_append x (token.Mark Bar ∷ term t (token.Mark CloseList ∷ a)) b

  pub terms_append : (c : Terms) (a b : List Token) → terms c (a ++ b) ≡ terms c a ++ b
  terms_append (one t) a b = term_append t a b
  terms_append (more t x) a b =
      ap (λ l. term t (token.Mark Comma ∷ l)) (terms_append x a b) ∙ term_append t (token.Mark Comma ∷ terms x a) b

mutual
  pub operand_append : (c : Operand) (a b : List Token) → operand c (a ++ b) ≡ operand c a ++ b
  operand_append (nested e) a b = ap (λ l. token.Mark Open ∷ l) (expression_append e (token.Mark Close ∷ a) b)
  operand_append c a b = refl

  pub product_append : (c : Factors) (a b : List Token) → product c (a ++ b) ≡ product c a ++ b
  product_append (factor u) a b = operand_append u a b
  product_append (factors u o p) a b =
      ap (λ l. operand u (token.Product o ∷ l)) (product_append p a b) ∙ operand_append u (token.Product o ∷ product p a) b

  pub expression_append : (c : Expression) (a b : List Token) → expression c (a ++ b) ≡ expression c a ++ b
  expression_append (summand p) a b = product_append p a b
  expression_append (summands p o e) a b =
      ap (λ l. product p (token.Sum o ∷ l)) (expression_append e a b) ∙ product_append p (token.Sum o ∷ expression e a) b

pub item_append : (c : Item) (a b : List Token) → item c (a ++ b) ≡ item c a ++ b
item_append (goal f x) a b = ap (λ l. token.Name f ∷ l) (arguments_append x a b)
item_append (unify s t) a b =
    ap (λ l. term s (token.Mark Equals ∷ l)) (term_append t a b) ∙ term_append s (token.Mark Equals ∷ term t a) b
item_append (assign v e) a b = ap (λ l. token.Variable v ∷ token.Mark Assign ∷ l) (expression_append e a b)

pub test_append : (c : Test) (a b : List Token) → test c (a ++ b) ≡ test c a ++ b
test_append (plain_test i) a b = item_append i a b
test_append (compare e o f) a b =
    ap (λ l. expression e (token.Comparison o ∷ l)) (expression_append f a b) ∙ expression_append e (token.Comparison o ∷ expression f a) b

pub tests_append : (c : Tests) (a b : List Token) → tests c (a ++ b) ≡ tests c a ++ b
tests_append (last_test t) a b = test_append t a b
tests_append (next_test t x) a b =
    ap (λ l. test t (token.Mark Comma ∷ l)) (tests_append x a b) ∙ test_append t (token.Mark Comma ∷ tests x a) b

pub body_append : (c : Body) (a b : List Token) → body c (a ++ b) ≡ body c a ++ b
body_append (last i) a b = item_append i a b
body_append (next i x) a b =
    ap (λ l. item i (token.Mark Comma ∷ l)) (body_append x a b) ∙ item_append i (token.Mark Comma ∷ body x a) b

pub right_append : (c : Right) (a b : List Token) → right c (a ++ b) ≡ right c a ++ b
right_append (unguarded x) a b = body_append x (token.Mark Stop ∷ a) b
right_append (guarded t x) a b =
    ap (λ l. tests t (token.Mark Bar ∷ l)) (body_append x (token.Mark Stop ∷ a) b) ∙ tests_append t (token.Mark Bar ∷ body x (token.Mark Stop ∷ a)) b

pub clause_append : (c : Clause) (a b : List Token) → clause c (a ++ b) ≡ clause c a ++ b
clause_append (fact f x) a b = ap (λ l. token.Name f ∷ l) (arguments_append x (token.Mark Stop ∷ a) b)
clause_append (rule f x r) a b =
    ap (λ l. token.Name f ∷ arguments x (token.Mark Define ∷ l)) (right_append r a b) ∙ ap (λ l. token.Name f ∷ l) (arguments_append x (token.Mark Define ∷ right r a) b)
