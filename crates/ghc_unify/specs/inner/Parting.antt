-- Where two chains come together.
use Rattle.std.specs.Prelude.{◌≡◌, ◌≢◌, Bool, true, false, List, [], ◌∷◌, ◌++◌}
use Rattle.ghc_term.specs.declared.var_name.VarName.{VarName}

-- Both lists have the same last variable.
abbrev pub EndAlike : List VarName → List VarName → Type 0
EndAlike xs ys = (x : VarName) × (a b : List VarName) × (xs ≡ a ++ x ∷ []) × (ys ≡ b ++ x ∷ [])

-- Two lists are what is left of a common end of both, the longest; and whether it has a variable.
pub record Parts (xs ys a b : List VarName) (shared : Bool) : Type 0 where
  pub common : List VarName
  pub left : xs ≡ a ++ common
  pub right : ys ≡ b ++ common
  pub none : shared ≡ false → common ≡ []
  pub some : shared ≡ true → common ≢ []
  pub longest : ¬ EndAlike a b
