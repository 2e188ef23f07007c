-- The classes of bytes that the tokens of a text are made of.
use Rattle.std.specs.Prelude.{◌≡◌, ℕ, List, [], ◌∷◌, Bool, false, IsTrue, ◌==◌, ◌||◌, not}
use Rattle.std.specs.Char.{is_ascii_digit, is_ascii_lowercase, is_ascii_uppercase}
use Rattle.std.specs.List.{list_all}
use Rattle.ghc_reader.specs.declared.lexer.run.Run.{Run}
use Rattle.ghc_reader.specs.declared.lexer.run.Run.TheVariants.{Digits, Word, Comment}

-- a space, a tab, a line feed or a carriage return
abbrev pub is_blank : ℕ → Bool
is_blank b = b == 32 || b == 9 || b == 10 || b == 13

-- a letter, a digit or `_`
abbrev pub is_word : ℕ → Bool
is_word b = is_ascii_lowercase b || is_ascii_uppercase b || is_ascii_digit b || b == 95

-- a capital letter or `_`
abbrev pub begins_variable : ℕ → Bool
begins_variable b = is_ascii_uppercase b || b == 95

-- a byte that goes on with a run
abbrev pub goes_on : Run → ℕ → Bool
goes_on Digits b = is_ascii_digit b
goes_on Word b = is_word b
goes_on Comment b = not (b == 10)

-- the first byte passes the test
abbrev pub Begins : (ℕ → Bool) → List ℕ → Type 0
Begins test [] = ⊥
Begins test (b ∷ bs) = IsTrue (test b)

-- a minus first, and a digit directly after it
abbrev pub BeginsNegative : List ℕ → Type 0
BeginsNegative [] = ⊥
BeginsNegative (b ∷ bs) = (b ≡ 45) × Begins is_ascii_digit bs

-- no byte that passes the test comes first
abbrev pub Lacks : (ℕ → Bool) → List ℕ → Type 0
Lacks test [] = Unit {0}
Lacks test (b ∷ bs) = test b ≡ false

-- a byte that passes `first`, and then only bytes that pass `each`
abbrev pub IsRun : (ℕ → Bool) → (ℕ → Bool) → List ℕ → Type 0
IsRun first each [] = ⊥
IsRun first each (b ∷ bs) = IsTrue (first b) × IsTrue (list_all each bs)
