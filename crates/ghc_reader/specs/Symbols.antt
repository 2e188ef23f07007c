-- The tokens that have one spelling each.
use Rattle.std.specs.Prelude.{◌≡◌, ℕ, ◌≤◌, List, [], ◌∷◌, ◌++◌, length, codes}
use Rattle.ghc_reader.specs.declared.token.Mark.TheVariants.{Open, Close, OpenList, CloseList, Comma, Bar, Equals, Assign, Define, Stop}
use Rattle.ghc_term.specs.declared.comparison.Comparison.TheVariants.{Less, AtMost, Greater, AtLeast, Equal, NotEqual}
use Rattle.ghc_reader.specs.declared.token.Sum.TheVariants.{Plus, Minus}
use Rattle.ghc_reader.specs.declared.token.Product.TheVariants.{Times, Divide, Modulo}
use Rattle.ghc_reader.specs.declared.token.Token.{Token}
use Rattle.ghc_reader.specs.declared.token.Token.TheVariants as token
use Rattle.ghc_reader.specs.declared.lexer.symbol.Symbol.{Symbol}
use Rattle.ghc_reader.specs.declared.lexer.symbol.Symbol.TheVariants as symbol

-- the bytes of a symbol
abbrev pub spelling : Symbol → List ℕ
spelling (symbol.Mark Open) = codes "("
spelling (symbol.Mark Close) = codes ")"
spelling (symbol.Mark OpenList) = codes "["
spelling (symbol.Mark CloseList) = codes "]"
spelling (symbol.Mark Comma) = codes ","
spelling (symbol.Mark Bar) = codes "|"
spelling (symbol.Mark Equals) = codes "="
spelling (symbol.Mark Assign) = codes ":="
spelling (symbol.Mark Define) = codes ":-"
spelling (symbol.Mark Stop) = codes "."
spelling (symbol.Comparison Less) = codes "<"
spelling (symbol.Comparison AtMost) = codes "=<"
spelling (symbol.Comparison Greater) = codes ">"
spelling (symbol.Comparison AtLeast) = codes ">="
spelling (symbol.Comparison Equal) = codes "=:="
spelling (symbol.Comparison NotEqual) = 61 ∷ 92 ∷ 61 ∷ []
spelling (symbol.Sum Plus) = codes "+"
spelling (symbol.Sum Minus) = codes "-"
spelling (symbol.Product Times) = codes "*"
spelling (symbol.Product Divide) = codes "/"
spelling (symbol.Product Modulo) = codes "mod"

-- the token that a symbol is
abbrev pub token_of_symbol : Symbol → Token
token_of_symbol (symbol.Mark m) = token.Mark m
token_of_symbol (symbol.Comparison c) = token.Comparison c
token_of_symbol (symbol.Sum s) = token.Sum s
token_of_symbol (symbol.Product p) = token.Product p

-- no longer symbol stands where this one stands in front of the rest
abbrev pub IsLongest : Symbol → List ℕ → Type 0
IsLongest s rest = (other : Symbol) (more : List ℕ) → spelling s ++ rest ≡ spelling other ++ more → length (spelling other) ≤ length (spelling s)
