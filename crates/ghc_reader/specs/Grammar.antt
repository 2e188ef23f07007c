-- The grammar, as its derivations: a constructor for each form of a production, and the tokens that it stands for.
--
--   program    = { clause }
--   clause     = call [ ":-" right ] "."
--   right      = [ tests "|" ] body
--   tests      = test { "," test }
--   test       = item | expression comparison expression
--   body       = item { "," item }
--   item       = call | term "=" term | variable ":=" expression
--   query      = body [ "." ]
--   call       = name arguments
--   arguments  = [ "(" terms ")" ]
--   terms      = term { "," term }
--   term       = variable | integer | call | "[" "]" | "[" terms [ "|" term ] "]"
--   expression = factors { ( "+" | "-" ) factors }
--   factors    = operand { ( "*" | "/" | "mod" ) operand }
--   operand    = variable | integer | "(" expression ")"
--   comparison = "<" | "=<" | ">" | ">=" | "=:=" | "=\="
--
-- An input term is a term in which no variable stands.
use Rattle.std.specs.Prelude.{ℕ, ℤ, List, ◌∷◌}
use Rattle.ghc_reader.specs.declared.token.Mark.TheVariants.{Open, Close, OpenList, CloseList, Comma, Bar, Equals, Assign, Define, Stop}
use Rattle.ghc_term.specs.declared.comparison.Comparison.{Comparison}
use Rattle.ghc_reader.specs.declared.token.Sum.{Sum}
use Rattle.ghc_reader.specs.declared.token.Product.{Product}
use Rattle.ghc_reader.specs.declared.token.Token.{Token}
use Rattle.ghc_reader.specs.declared.token.Token.TheVariants as token

mutual
  pub data Term : Type 0 where
    variable : List ℕ → Term
    integer : ℤ → Term
    call : List ℕ → Arguments → Term
    list : Rest → Term

  -- what stands after a name
  pub data Arguments : Type 0 where
    without : Arguments
    within : Terms → Arguments

  -- what stands after the bracket that opens a list
  pub data Rest : Type 0 where
    closed : Rest
    whole : Terms → Rest
    partial : Terms → Term → Rest

  pub data Terms : Type 0 where
    one : Term → Terms
    more : Term → Terms → Terms

mutual
  pub data Operand : Type 0 where
    number : ℤ → Operand
    named : List ℕ → Operand
    nested : Expression → Operand

  pub data Factors : Type 0 where
    factor : Operand → Factors
    factors : Operand → Product → Factors → Factors

  pub data Expression : Type 0 where
    summand : Factors → Expression
    summands : Factors → Sum → Expression → Expression

-- a goal: a call, an equation of two terms, or an assignment of an expression to a variable
pub data Item : Type 0 where
  goal : List ℕ → Arguments → Item
  unify : Term → Term → Item
  assign : List ℕ → Expression → Item

-- a test of a guard: a goal, or a comparison of two expressions
pub data Test : Type 0 where
  plain_test : Item → Test
  compare : Expression → Comparison → Expression → Test

-- the tests of a guard, one or more, with commas between them
pub data Tests : Type 0 where
  last_test : Test → Tests
  next_test : Test → Tests → Tests

-- the goals of a body or a query, one or more, with commas between them
pub data Body : Type 0 where
  last : Item → Body
  next : Item → Body → Body

-- what stands after `:-`
pub data Right : Type 0 where
  unguarded : Body → Right
  guarded : Tests → Body → Right

-- a clause: a fact, which is a head alone, or a rule, which has `:-` after its head
pub data Clause : Type 0 where
  fact : List ℕ → Arguments → Clause
  rule : List ℕ → Arguments → Right → Clause

-- a program: its clauses in order, or none at all
pub data Program : Type 0 where
  done : Program
  clauses : Clause → Program → Program

-- a query: its goals, without or with a full stop after them
pub data Query : Type 0 where
  plain : Body → Query
  stopped : Body → Query

abbrev mutual
  -- no variable stands in the term
  pub IsClosed : Term → Type 0
  IsClosed (variable _) = ⊥
  IsClosed (integer _) = Unit {0}
  IsClosed (call _ a) = AreClosedArguments a
  IsClosed (list r) = IsClosedRest r

  pub AreClosedArguments : Arguments → Type 0
  AreClosedArguments without = Unit {0}
  AreClosedArguments (within a) = AreClosed a

  pub IsClosedRest : Rest → Type 0
  IsClosedRest closed = Unit {0}
  IsClosedRest (whole a) = AreClosed a
  IsClosedRest (partial a t) = AreClosed a × IsClosed t

  pub AreClosed : Terms → Type 0
  AreClosed (one t) = IsClosed t
  AreClosed (more t a) = IsClosed t × AreClosed a

-- an input term
pub record Input : Type 0 where
  pub term : Term
  pub closed : IsClosed term

-- the tokens of a derivation, and then ts
abbrev mutual
  pub term : Term → List Token → List Token
  term (variable v) ts = token.Variable v ∷ ts
  term (integer n) ts = token.Integer n ∷ ts
  term (call f a) ts = token.Name f ∷ arguments a ts
  term (list r) ts = token.Mark OpenList ∷ rest r ts

  pub arguments : Arguments → List Token → List Token
  arguments without ts = ts
  arguments (within a) ts = token.Mark Open ∷ terms a (token.Mark Close ∷ ts)

  pub rest : Rest → List Token → List Token
  rest closed ts = token.Mark CloseList ∷ ts
  rest (whole a) ts = terms a (token.Mark CloseList ∷ ts)
  rest (partial a t) ts = terms a (token.Mark Bar ∷ term t (token.Mark CloseList ∷ ts))

  pub terms : Terms → List Token → List Token
  terms (one t) ts = term t ts
  terms (more t a) ts = term t (token.Mark Comma ∷ terms a ts)

abbrev mutual
  pub operand : Operand → List Token → List Token
  operand (number n) ts = token.Integer n ∷ ts
  operand (named v) ts = token.Variable v ∷ ts
  operand (nested e) ts = token.Mark Open ∷ expression e (token.Mark Close ∷ ts)

  pub product : Factors → List Token → List Token
  product (factor u) ts = operand u ts
  product (factors u o p) ts = operand u (token.Product o ∷ product p ts)

  pub expression : Expression → List Token → List Token
  expression (summand p) ts = product p ts
  expression (summands p o e) ts = product p (token.Sum o ∷ expression e ts)

-- the tokens of a goal, and then ts
abbrev pub item : Item → List Token → List Token
item (goal f a) ts = token.Name f ∷ arguments a ts
item (unify s t) ts = term s (token.Mark Equals ∷ term t ts)
item (assign v e) ts = token.Variable v ∷ token.Mark Assign ∷ expression e ts

-- the tokens of a goal or a comparison in a guard, and then ts
abbrev pub test : Test → List Token → List Token
test (plain_test i) ts = item i ts
test (compare a o b) ts = expression a (token.Comparison o ∷ expression b ts)

-- the tokens of a guard's tests with commas between them, and then ts
abbrev pub tests : Tests → List Token → List Token
tests (last_test t) ts = test t ts
tests (next_test t x) ts = test t (token.Mark Comma ∷ tests x ts)

-- the tokens of goals with commas between them, and then ts
abbrev pub body : Body → List Token → List Token
body (last i) ts = item i ts
body (next i b) ts = item i (token.Mark Comma ∷ body b ts)

-- the tokens that stand after `:-`, up to the full stop and with it, and then ts
abbrev pub right : Right → List Token → List Token
right (unguarded b) ts = body b (token.Mark Stop ∷ ts)
right (guarded t b) ts = tests t (token.Mark Bar ∷ body b (token.Mark Stop ∷ ts))

-- the tokens of a fact or a rule, with its full stop, and then ts
abbrev pub clause : Clause → List Token → List Token
clause (fact f a) ts = token.Name f ∷ arguments a (token.Mark Stop ∷ ts)
clause (rule f a r) ts = token.Name f ∷ arguments a (token.Mark Define ∷ right r ts)

-- the tokens of all clauses of a program, and then ts
abbrev pub program : Program → List Token → List Token
program done ts = ts
program (clauses c p) ts = clause c (program p ts)

-- the tokens of a query's goals, with its full stop if it has one, and then ts
abbrev pub query : Query → List Token → List Token
query (plain b) ts = body b ts
query (stopped b) ts = body b (token.Mark Stop ∷ ts)

-- the tokens of an input term, and then ts
abbrev pub input : Input → List Token → List Token
input i ts = term i.term ts
