-- Where a list of tokens stops being the beginning of a text.
use Rattle.std.specs.Prelude.{◌≡◌, ◌≢◌, ℕ, ◌+◌, ◌<◌, ◌≤◌, List, [], ◌++◌, take, length, ⊤}
use Rattle.ghc_reader.specs.declared.token.Token.{Token}
use Rattle.ghc_reader.specs.declared.parse_error.ParseError.{ParseError}
use Rattle.ghc_reader.specs.declared.parse_error.ParseError.TheVariants as parse_error

-- the tokens begin a text: C are the derivations of its grammar, and `spell c []` the tokens of one
abbrev pub Viable : (C : Type 0) → (C → List Token → List Token) → List Token → Type 0
Viable C spell ts = (c : C) × (more : List Token) × (spell c [] ≡ ts ++ more)

-- n tokens stand in front of the first token such that the tokens up to it and with it begin no text. The end counts as a token.
pub record FaultAt (C : Type 0) (spell : C → List Token → List Token) (ts : List Token) (n : ℕ) : Type 0 where
  pub place : n ≤ length ts
  pub before : Viable C spell (take n ts)
  pub token : n < length ts → ¬ Viable C spell (take (n + 1) ts)
  pub end : n ≡ length ts → (c : C) → spell c [] ≢ ts

-- what holds of the place of a fault
abbrev pub IfSyntax : ParseError → (ℕ → Type 0) → Type 0
IfSyntax parse_error.Memory P = ⊤
IfSyntax (parse_error.Syntax n) P = P n
