-- How deep the brackets of a text are nested.
use Rattle.std.specs.Prelude.{◌≡◌, ℕ, ◌+◌, ◌-◌, ◌<◌, List, [], ◌∷◌, ◌++◌}
use Rattle.ghc_reader.specs.declared.token.Mark.TheVariants.{Open, Close, OpenList, CloseList}
use Rattle.ghc_reader.specs.declared.token.Token.{Token}
use Rattle.ghc_reader.specs.declared.token.Token.TheVariants as token

-- the brackets that are open after a token: `(` and `[` open one, `)` and `]` close one where one is open
abbrev pub open_behind : ℕ → Token → ℕ
open_behind n (token.Mark Open) = n + 1
open_behind n (token.Mark OpenList) = n + 1
open_behind n (token.Mark Close) = n - 1
open_behind n (token.Mark CloseList) = n - 1
open_behind n t = n

-- the brackets that are open after these tokens
abbrev pub open_after : ℕ → List Token → ℕ
open_after n [] = n
open_after n (t ∷ ts) = open_after (open_behind n t) ts

-- more than so many brackets are open at one place
abbrev pub IsDeeperThan : ℕ → List Token → Type 0
IsDeeperThan most ts = (front rest : List Token) × (ts ≡ front ++ rest) × (most < open_after 0 front)

-- more than 64 brackets are open at one place
abbrev pub IsTooDeep : List Token → Type 0
IsTooDeep ts = IsDeeperThan 64 ts
