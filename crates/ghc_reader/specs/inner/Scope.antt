-- How the names of the variables become known along a text.
use Rattle.std.specs.Prelude.{◌≡◌, ◌≢◌, ◌⊎◌, ℕ, ◌+◌, List, [], ◌∷◌, ◌++◌, length, Option, Some, MatchOption, slice_get, false}
use Rattle.ghc_term.specs.declared.var_name.VarName.{VarName}
use Rattle.ghc_term.specs.Tree.{Tree, cons}
use Rattle.ghc_term.specs.Goal.{Goal, stream}
use Rattle.ghc_reader.specs.Written.{is_stream}
use Rattle.ghc_reader.specs.Lowered.{Names, blank}

-- no variable is called v, but where v is `_`
abbrev pub IsFresh : Names → List ℕ → Type 0
IsFresh names v = (i : ℕ) → slice_get names i ≡ Some v → v ≡ blank

-- x is a variable that is known by a name other than `_`
abbrev pub IsKnown : Names → VarName → Type 0
IsKnown names x = (i : ℕ) × (v : List ℕ) × (slice_get names i ≡ Some v) × (v ≢ blank) × (x ≡ record { step = 0; place = i + 1 })

-- x is the next variable, and `later` has its name besides
abbrev pub IsNext : Names → VarName → Names → Type 0
IsNext names x later = (v : List ℕ) × IsFresh names v × (x ≡ record { step = 0; place = length names + 1 }) × (later ≡ names ++ v ∷ [])

-- Where the variable x is met, the names become the later ones.
abbrev pub Meets : Names → VarName → Names → Type 0
Meets names x later = (IsKnown names x × (later ≡ names)) ⊎ IsNext names x later

-- Where the variables are met in order, the names become the later ones.
abbrev pub MeetsAll : Names → List VarName → Names → Type 0
MeetsAll names [] later = later ≡ names
MeetsAll names (x ∷ xs) later = (between : Names) × Meets names x between × MeetsAll between xs later

-- What is found by name: the number of a variable that has it, or nothing where none has.
abbrev pub IsTable : (List ℕ → Option ℕ) → Names → Type 0
IsTable found names = (v : List ℕ) → MatchOption (found v) (IsFresh names v) (λ k. (i : ℕ) × (k ≡ i + 1) × (slice_get names i ≡ Some v) × (v ≢ blank))

-- the list cells of these terms in front of an end
abbrev pub conses : List Tree → Tree → Tree
conses [] end = end
conses (t ∷ ts) end = cons t (conses ts end)

-- After so many streams the goal g is no stream, or it is the next, and they are one more.
abbrev pub Counts : ℕ → Goal → ℕ → Type 0
Counts count g later = ((is_stream g ≡ false) × (later ≡ count)) ⊎ ((x : VarName) × (g ≡ stream (count + 1) x) × (later ≡ count + 1))
