-- Lists of variables, told by numbers.
use Rattle.std.specs.Prelude.{◌≡◌, ◌⊎◌, ◌↔◌, ℕ, List, [], ◌∷◌, ◌++◌}
use Rattle.ghc_term.specs.declared.var_name.VarName.{VarName}
use Rattle.ghc_term.specs.Lists.{In}

-- two numbers for each variable
abbrev pub numbered : List VarName → List ℕ
numbered [] = []
numbered (x ∷ xs) = x.step ∷ x.place ∷ numbered xs

-- the numbers tell of the variable
abbrev pub IsTold : VarName → List ℕ → Type 0
IsTold x [] = ⊥
IsTold x (s ∷ []) = ⊥
IsTold x (s ∷ p ∷ ns) = ((x.step ≡ s) × (x.place ≡ p)) ⊎ IsTold x ns

-- the list has just the variables that the numbers tell of
abbrev pub IsListOf : List ℕ → List VarName → Type 0
IsListOf ns xs = (x : VarName) → In x xs ↔ IsTold x ns

-- The list goes on as it was.
abbrev pub GoesOn : List VarName → List VarName → Type 0
GoesOn old new = (more : List VarName) × (new ≡ old ++ more)

-- The variables of which P holds were added to the list.
abbrev pub Gathers : (VarName → Type 0) → List VarName → List VarName → Type 0
Gathers P old new = GoesOn old new × ((x : VarName) → In x new ↔ (In x old ⊎ P x))
