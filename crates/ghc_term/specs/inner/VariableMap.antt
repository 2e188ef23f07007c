-- Values under variables, of which those under the first variables of steps stand in a list by step.
use Rattle.std.specs.Prelude.{◌≡◌, ◌+◌, ℕ, List, [], ◌∷◌, ◌++◌, Option, Some, None, slice_index_or}
use Rattle.std.specs.FinMap as finite
use Rattle.ghc_term.specs.declared.var_name.VarName.{VarName}
use Rattle.ghc_term.specs.Bindings.{name_cmp}

-- the first variable that the step of this number made
abbrev pub first_of : ℕ → VarName
first_of n = record { step = n; place = 1 }

-- the values of the list, each under the first variable of the step of its place, where the first place is that of step n
abbrev pub first_variables : {V : Type 0} → ℕ → List (Option V) → List (VarName × V)
first_variables n [] = []
first_variables n (Some v ∷ vs) = (first_of n, v) ∷ first_variables (n + 1) vs
first_variables n (None ∷ vs) = first_variables (n + 1) vs

-- the values of the entries, each under its variable, of each variable the first
abbrev pub values_in : {V : Type 0} → List (VarName × V) → finite.FinMap name_cmp V
values_in es = finite.from_entries es

-- Under each variable stands the value that the list has for it, or, where the list has none, that of its entry.
abbrev pub values_of : {V : Type 0} → List (Option V) → List (VarName × V) → finite.FinMap name_cmp V
values_of vs es = values_in (first_variables 0 vs ++ es)

-- the value that the list has at the place, if it has one there
abbrev pub first_at : {V : Type 0} → List (Option V) → ℕ → Option V
first_at vs x = slice_index_or vs x None

-- At each place the one list has the value that the other has, or neither has one.
abbrev pub HasSameValues : {V : Type 0} → List (Option V) → List (Option V) → Type 0
HasSameValues vs ws = (x : ℕ) → first_at ws x ≡ first_at vs x

-- No entry is that of the first variable of a step.
abbrev pub HasNoFirsts : {V : Type 0} → List (VarName × V) → Type 0
HasNoFirsts es = (x : VarName) → x.place ≡ 1 → finite.get (values_in es) x ≡ None
