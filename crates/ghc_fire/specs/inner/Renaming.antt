-- What the variables of the goals that a step makes become, and terms that are being rebuilt.
use Rattle.std.specs.Prelude.{◌≡◌, ℕ, ◌+◌, ◌-◌, List, [], ◌∷◌, ◌++◌, None, unwrap_or}
use Rattle.ghc_term.specs.declared.var_name.VarName.{VarName}
use Rattle.ghc_term.specs.declared.operator.Operator.{Operator}
use Rattle.ghc_term.specs.Tree.{Tree, variable, node, trees}
use Rattle.ghc_term.specs.Expression.{Expression, operation}
use Rattle.ghc_term.specs.Lists.{In}
use Rattle.ghc_term.specs.Store.{StoreValue, value_at}
use Rattle.ghc_flat.specs.Clause.{Clause}
use Rattle.ghc_flat.specs.Variables.{variables_of_goals, fresh_variables}
use Rattle.ghc_fire.specs.Instance.{made, place_in}
use Rattle.ghc_fire.specs.Proposal.{numbered}
use Rattle.ghc_fire.specs.Asked.{called_by}
use Rattle.ghc_fire.specs.declared.instances.terms.Front.{Front}
use Rattle.ghc_fire.specs.declared.instances.renaming.Renaming.{Renaming}
use Rattle.ghc_fire.specs.declared.instances.renaming.Renaming.TheVariants.{Body, Numbered, Called}

-- Each variable of the body that stands for nothing in theta is a fresh one, and its place comes after the h variables of the head.
abbrev pub AreBehindHead : ℕ → Clause → StoreValue → Type 0
AreBehindHead h c theta = (y : VarName) → In y (variables_of_goals c.body) → value_at theta y ≡ None → y.place ≡ h + place_in (fresh_variables c) y

-- what a variable becomes in step n, where the head has h variables
abbrev pub renamed : ℕ → StoreValue → ℕ → VarName → Tree
renamed h theta n y = unwrap_or (value_at theta y) (variable (made n (y.place - h)))

-- what a variable becomes by a renaming
abbrev pub replacement : Renaming → VarName → Tree
replacement (Body theta h n) = renamed h theta.now n
replacement (Numbered n) = numbered n
replacement (Called xs) = called_by xs.now

-- the tree that comes about where t is the last argument of the innermost of the structures
abbrev pub plugged : List Front → Tree → Tree
plugged [] t = t
plugged (f ∷ fs) t = node f.name (trees (f.arguments.items ++ plugged fs t ∷ []))

-- the expression that comes about where a is the left operand of the innermost of the operations
abbrev pub operated : List (Operator × Expression) → Expression → Expression
operated [] a = a
operated (p ∷ ps) a = operation p.0 (operated ps a) p.1
