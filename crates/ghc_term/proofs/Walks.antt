-- A walk by what is lent of a term.
use Rattle.ghc_term.proofs.Words.{◌≢◌, [], refl, Option, Bor, List, ℕ, VarName, TermView, Var, Int, Struct, Tree, Occurs, shown, Leads, at_integer, at_node}

-- what is no variable is the end of its chain
pub at_value : {S : VarName → Option Tree} (v : TermView) → ((x : VarName) → v ≢ Var x) → Leads S (shown v) [] (shown v)
at_value (Var x) h = absurd (h x refl)
at_value (Int k) h = at_integer
at_value v h = at_node

-- no variable stands in an integer or an atom
pub no_variable : (v : TermView) → ((x : VarName) → v ≢ Var x) → ((f : Bor (List ℕ)) (ts : Bor (List Tree)) → v ≢ Struct f ts) → (y : VarName) → ¬ Occurs y (shown v)
no_variable (Var x) h g y o = h x refl
no_variable (Struct f ts) h g y o = g f ts refl
no_variable v h g y o = o
