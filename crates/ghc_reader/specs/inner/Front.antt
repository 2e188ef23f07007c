-- The front of a list of tokens.
use Rattle.std.specs.Prelude.{◌≡◌, ◌≢◌, ℕ, List, [], ◌∷◌, Option, Some, None, Bool, true, false}
use Rattle.ghc_reader.specs.declared.token.Mark.{Mark}
use Rattle.ghc_reader.specs.declared.token.Mark.TheVariants.{OpenList, Equals, Assign}
use Rattle.ghc_reader.specs.declared.token.Token.{Token}
use Rattle.ghc_reader.specs.declared.token.Token.TheVariants as token

-- the first token
abbrev pub first : List Token → Option Token
first [] = None
first (t ∷ ts) = Some t

-- the second token
abbrev pub second : List Token → Option Token
second [] = None
second (t ∷ ts) = first ts

-- the first token is this mark
abbrev pub Begins : Mark → List Token → Type 0
Begins m ts = first ts ≡ Some (token.Mark m)

-- the first token is no name
abbrev pub IsNotNamed : List Token → Type 0
IsNotNamed ts = (f : List ℕ) → first ts ≢ Some (token.Name f)

-- the tokens begin no assignment
abbrev pub IsNotAssigned : List Token → Type 0
IsNotAssigned ts = (v : List ℕ) (rest : List Token) → ts ≢ token.Variable v ∷ token.Mark Assign ∷ rest

-- the mark of an equation, which may follow an integer in an item
abbrev pub like_equation : Option Token → Bool
like_equation None = false
like_equation (Some (token.Mark Equals)) = true
like_equation (Some _) = false

-- the mark of an equation or of an assignment, which may follow a variable in an item
abbrev pub like_assignment : Option Token → Bool
like_assignment None = false
like_assignment (Some (token.Mark Equals)) = true
like_assignment (Some (token.Mark Assign)) = true
like_assignment (Some _) = false

-- two tokens with which an item can begin, and no comparison
abbrev pub like : Option Token → Option Token → Bool
like None b = false
like (Some (token.Name f)) b = true
like (Some (token.Mark OpenList)) b = true
like (Some (token.Variable v)) b = like_assignment b
like (Some (token.Integer n)) b = like_equation b
like (Some _) b = false

-- the first two tokens begin an item, and no comparison
abbrev pub item_like : List Token → Bool
item_like ts = like (first ts) (second ts)

-- no variable is among the tokens
abbrev pub NoVariable : List Token → Type 0
NoVariable [] = Unit {0}
NoVariable (token.Variable v ∷ ts) = ⊥
NoVariable (t ∷ ts) = NoVariable ts

-- a variable is the first token, or there is none
abbrev pub StartsWithVariable : List Token → Type 0
StartsWithVariable [] = Unit {0}
StartsWithVariable (token.Variable v ∷ ts) = Unit {0}
StartsWithVariable (t ∷ ts) = ⊥
