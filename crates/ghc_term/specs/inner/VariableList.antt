-- Distinct variables in the order in which they came.
use Rattle.std.specs.Prelude.{Bool, ◌&&◌, ◌==◌, List, [], ◌∷◌}
use Rattle.std.specs.Coded.{Coded, coded_list}
use Rattle.std.specs.List.{IsDistinct}
use Rattle.ghc_term.specs.declared.var_name.VarName.{VarName}
use Rattle.ghc_term.specs.declared.table.variable_list.Held.{Held}
use Rattle.ghc_term.specs.declared.table.variable_list.Held.TheVariants.{Nothing, One, Two, Three, Listed, Tabled}
use Rattle.ghc_term.specs.inner.Code.{name_code}

-- whether the two are one variable
abbrev pub is_same : VarName → VarName → Bool
is_same x y = (x.step == y.step) && (x.place == y.place)

-- No variable stands twice in the list.
abbrev pub AreDifferent : List VarName → Type 0
AreDifferent xs = IsDistinct is_same xs

-- the variables in order
abbrev pub in_order : Held → List VarName
in_order (Nothing a) = []
in_order (One a x) = x ∷ []
in_order (Two a xs) = xs
in_order (Three a xs) = xs
in_order (Listed v) = v.items
in_order (Tabled b) = b.value.keys

-- the code of lists of variables: two lists with one code are one
abbrev pub variable_list_code : Coded (List VarName)
variable_list_code = coded_list name_code
