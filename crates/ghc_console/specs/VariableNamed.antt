-- Which variable a word of the console names.
use Rattle.std.specs.Prelude.{◌≡◌, ◌≢◌, ◌⊎◌, ℕ, ◌+◌, ◌==◌, List, [], ◌∷◌, codes, Option, None, Some, if◌then◌else◌, length, slice_get}
use Rattle.std.specs.List.{slice_split}
use Rattle.ghc_term.specs.declared.var_name.VarName.{VarName}
use Rattle.ghc_records.specs.Replay.{IsVariableOf}
use Rattle.ghc_core.specs.World.{World}
use Rattle.ghc_console.specs.Words.{number_of}

-- The word is the name that the query gives to the variable x, where the names of its variables are these, by number. (`_` is no name.)
abbrev pub IsGivenName : List (List ℕ) → List ℕ → VarName → Type 0
IsGivenName names word x = (i : ℕ) × (slice_get names i ≡ Some word) × (word ≢ codes "_") × (x ≡ record { step = 0; place = i + 1 })

-- The variable of a step and a place, where both are there.
abbrev pub variable_numbered : Option ℕ → Option ℕ → Option VarName
variable_numbered (Some step) (Some place) = Some (record { step = step; place = place })
variable_numbered (Some step) None = None
variable_numbered None place = None

-- The variable that three parts name: nothing, the step, the place.
abbrev pub variable_of_parts : List (List ℕ) → Option VarName
variable_of_parts (front ∷ step ∷ place ∷ []) = if length front == 0 then variable_numbered (number_of step) (number_of place) else None
variable_of_parts _ = None

-- The variable that a word `_n_m` names by its numbers.
abbrev pub numbered_of : List ℕ → Option VarName
numbered_of word = variable_of_parts (slice_split (λ byte. byte == 95) word)

-- The word names the variable x of the world: one of the query by its name, or by its numbers one of the query or of a kept step.
abbrev pub IsVariableNamed : World → List ℕ → VarName → Type 0
IsVariableNamed w word x = IsGivenName w.opening.names word x ⊎ ((numbered_of word ≡ Some x) × IsVariableOf w.opening.query w.kept x)
