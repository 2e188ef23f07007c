-- What a part of the parser answers: a derivation and the tokens after it, or the first token with which no derivation goes on.
use Rattle.std.specs.Prelude.{◌≡◌, ◌≢◌, ℕ, List, [], ◌++◌, length, Option, Some, None, ⊤}
use Rattle.ghc_reader.specs.declared.token.Mark.TheVariants.{Open, Comma, Equals}
use Rattle.ghc_reader.specs.declared.token.Sum.{Sum}
use Rattle.ghc_reader.specs.declared.token.Product.{Product}
use Rattle.ghc_reader.specs.declared.token.Token.{Token}
use Rattle.ghc_reader.specs.declared.token.Token.TheVariants as token
use Rattle.ghc_reader.specs.inner.Front.{first, NoVariable, StartsWithVariable}
use Rattle.ghc_reader.specs.Grammar.{Term, variable, integer, call, list, Arguments, without, within, Rest, Terms, one, more, Operand, Factors, Expression, Item, goal, unify, assign, Test, plain_test, compare, Tests, last_test, next_test, Body, last, next, Right, Clause, Program, Query}

-- The first token after a derivation doesn't go on with it.
abbrev pub EndsArguments : Arguments → Option Token → Type 0
EndsArguments without o = o ≢ Some (token.Mark Open)
EndsArguments (within a) o = ⊤

-- The token after the term doesn't go on with it: no `(` stands after a name without arguments.
abbrev pub EndsTerm : Term → Option Token → Type 0
EndsTerm (variable v) o = ⊤
EndsTerm (integer n) o = ⊤
EndsTerm (call f a) o = EndsArguments a o
EndsTerm (list r) o = ⊤

-- The token after the terms doesn't go on with them: it is no comma, and no part of the last term.
abbrev pub EndsTerms : Terms → Option Token → Type 0
EndsTerms (one t) o = EndsTerm t o × (o ≢ Some (token.Mark Comma))
EndsTerms (more t a) o = EndsTerms a o

-- Any token may stand after a list, which a bracket closes.
abbrev pub EndsRest : Rest → Option Token → Type 0
EndsRest r o = ⊤

-- Any token may stand after an operand: a variable, an integer or an expression in brackets.
abbrev pub EndsOperand : Operand → Option Token → Type 0
EndsOperand u o = ⊤

-- The token after the product doesn't go on with it: it is neither `*` nor `/` nor `mod`.
abbrev pub EndsProduct : Factors → Option Token → Type 0
EndsProduct p o = (k : Product) → o ≢ Some (token.Product k)

-- The token after the expression doesn't go on with it: it is no arithmetic operator.
pub record EndsExpression (e : Expression) (o : Option Token) : Type 0 where
  pub product : (k : Product) → o ≢ Some (token.Product k)
  pub sum : (k : Sum) → o ≢ Some (token.Sum k)

-- The token after the goal doesn't go on with it; after a call, it makes no equation of it either.
abbrev pub EndsItem : Item → Option Token → Type 0
EndsItem (goal f a) o = EndsArguments a o × (o ≢ Some (token.Mark Equals))
EndsItem (unify s t) o = EndsTerm t o
EndsItem (assign v e) o = EndsExpression e o

-- The token after the body doesn't go on with it: it is no comma, and no part of the last goal.
abbrev pub EndsBody : Body → Option Token → Type 0
EndsBody (last i) o = EndsItem i o × (o ≢ Some (token.Mark Comma))
EndsBody (next i b) o = EndsBody b o

-- The token after the test doesn't go on with its goal or with the right side of its comparison.
abbrev pub EndsTest : Test → Option Token → Type 0
EndsTest (plain_test i) o = EndsItem i o
EndsTest (compare a k b) o = EndsExpression b o

-- The token after the tests doesn't go on with them: it is no comma, and no part of the last test.
abbrev pub EndsTests : Tests → Option Token → Type 0
EndsTests (last_test t) o = EndsTest t o × (o ≢ Some (token.Mark Comma))
EndsTests (next_test t x) o = EndsTests x o

-- a full stop ends it
abbrev pub EndsRight : Right → Option Token → Type 0
EndsRight r o = ⊤

-- Any token may stand after a clause, which a full stop ends.
abbrev pub EndsClause : Clause → Option Token → Type 0
EndsClause c o = ⊤

-- a program is the whole text
abbrev pub EndsProgram : Program → Option Token → Type 0
EndsProgram p o = o ≡ None

-- a query is the whole text
abbrev pub EndsQuery : Query → Option Token → Type 0
EndsQuery q o = o ≡ None

-- an input term is the whole text
abbrev pub EndsWhole : Term → Option Token → Type 0
EndsWhole t o = o ≡ None

-- front are the tokens of ts in front of the first variable
pub record ClosedFront (ts front : List Token) : Type 0 where
  pub rest : List Token
  pub split : ts ≡ front ++ rest
  pub closed : NoVariable front
  pub stops : StartsWithVariable rest

-- ts are the tokens of a derivation with this tree in front of `behind`, and then `behind`
pub record FoundAt (C : Type 0) (T : Type 0) (spell : C → List Token → List Token) (tree : C → List Token → T) (Ends : C → Option Token → Type 0) (ts : List Token) (seen : T) (behind : List Token) : Type 0 where
  pub derivation : C
  pub spelled : ts ≡ spell derivation behind
  pub sees : tree derivation behind ≡ seen
  pub stops : Ends derivation (first behind)

-- the same, for a tree in which no place stands
abbrev pub Found : (C : Type 0) (T : Type 0) → (C → List Token → List Token) → (C → T) → (C → Option Token → Type 0) → List Token → T → List Token → Type 0
Found C T spell tree Ends = FoundAt C T spell (λ c _. tree c) Ends

-- The tokens front go on to a derivation. With the first of rest, or at the end where there is none, they begin no derivation.
pub record Fault (C : Type 0) (spell : C → List Token → List Token) (Ends : C → Option Token → Type 0) (ts : List Token) (left : ℕ) : Type 0 where
  pub front : List Token
  pub rest : List Token
  pub split : ts ≡ front ++ rest
  pub count : length rest ≡ left
  pub goes_on : (c : C) × (more : List Token) × (front ++ more ≡ spell c [])
  pub stuck : (us : List Token) → first us ≡ first rest → (c : C) (behind : List Token) → Ends c (first behind) → front ++ us ≡ spell c behind → ⊥
