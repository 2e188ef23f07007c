-- The variables of heads and guards by their numbers: a head's are numbered in the order in which they stand there, until one comes again.
use Rattle.std.specs.Prelude.{◌≡◌, ◌≢◌, ℕ, ◌+◌, ◌<◌, ◌≤◌, List, [], ◌∷◌, ◌++◌, length, Result, Ok, Err}
use Rattle.ghc_term.specs.declared.var_name.VarName.{VarName}
use Rattle.ghc_term.specs.Lists.{In}
use Rattle.ghc_reader.specs.declared.written.Guard.{Guard}
use Rattle.ghc_flat.specs.declared.test.Test.{Test}
use Rattle.ghc_flat.specs.Flat.{MakesTests}
use Rattle.ghc_flat.specs.Samples.{asked}
use Rattle.ghc_flat.specs.Variables.{variables_of_test}

-- The list is `_0_(k+1)`, `_0_(k+2)` and so on.
abbrev pub Rises : ℕ → List VarName → Type 0
Rises k [] = Unit {0}
Rises k (x ∷ xs) = (x ≡ asked (k + 1)) × Rises (k + 1) xs

-- From `_0_k` on the list goes up to `_0_n`; or else x is the first variable in it that is not the next one.
abbrev pub CountsTo : List VarName → ℕ → Result ℕ VarName → Type 0
CountsTo xs k (Ok n) = Rises k xs × (n ≡ k + length xs)
CountsTo xs k (Err x) = (front : List VarName) × (back : List VarName) × (xs ≡ front ++ x ∷ back) × Rises k front × (x ≢ asked (k + length front + 1))

-- The variable is one of `_0_1` to `_0_n`.
abbrev pub IsAmong : ℕ → VarName → Type 0
IsAmong n x = (x.step ≡ 0) × (0 < x.place) × (x.place ≤ n)

-- So is each of these.
abbrev pub AreAmong : ℕ → List VarName → Type 0
AreAmong n xs = (x : VarName) → In x xs → IsAmong n x

-- The guard makes these tests, and each variable of theirs is one of `_0_1` to `_0_n`.
abbrev pub MakesAmong : ℕ → Guard → List Test → Type 0
MakesAmong n g ts = MakesTests g ts × ((t : Test) → In t ts → AreAmong n (variables_of_test t))
