-- The goals that a clause's body makes in a step.
use Rattle.std.specs.Prelude.{ℕ, ◌+◌, List, map, unwrap_or}
use Rattle.std.specs.List.{position}
use Rattle.std.specs.Ordering.{eq_by_cmp}
use Rattle.ghc_term.specs.declared.var_name.VarName.{VarName}
use Rattle.ghc_term.specs.Tree.{Tree, variable}
use Rattle.ghc_term.specs.Expression.{Expression, leaf, operation}
use Rattle.ghc_term.specs.Goal.{Goal, call, unify, assign, stream}
use Rattle.ghc_term.specs.Bindings.{name_cmp}
use Rattle.ghc_term.specs.Store.{StoreValue, value_at}
use Rattle.ghc_flat.specs.Clause.{Clause}
use Rattle.ghc_flat.specs.Variables.{fresh_variables}
use Rattle.ghc_unify.specs.Solutions.{replace}

-- the expression with each variable replaced
abbrev pub replace_in_expression : (VarName → Tree) → Expression → Expression
replace_in_expression s (leaf t) = leaf (replace s t)
replace_in_expression s (operation o a b) = operation o (replace_in_expression s a) (replace_in_expression s b)

-- the goal with each variable replaced (a body has no stream goal)
abbrev pub replace_in_goal : (VarName → Tree) → Goal → Goal
replace_in_goal s (call f ts) = call f (map (replace s) ts)
replace_in_goal s (unify l r) = unify (replace s l) (replace s r)
replace_in_goal s (assign t a) = assign (replace s t) (replace_in_expression s a)
replace_in_goal s (stream k x) = stream k x

-- The i-th variable that step n makes, `_n_i`.
abbrev pub made : ℕ → ℕ → VarName
made n i = record { step = n; place = i }

-- The place of a variable in a list of variables, counted from 1.
abbrev pub place_in : List VarName → VarName → ℕ
place_in xs y = unwrap_or (position (eq_by_cmp name_cmp y) xs) 0 + 1

-- What a variable of the clause becomes in step n: what it stands for, or `_n_i` where it is the i-th fresh variable.
abbrev pub becomes : Clause → StoreValue → ℕ → VarName → Tree
becomes c theta n y = unwrap_or (value_at theta y) (variable (made n (place_in (fresh_variables c) y)))

-- The goals that the clause's body makes in step n, its head variables standing for theta.
abbrev pub body_made : Clause → StoreValue → ℕ → List Goal
body_made c theta n = map (replace_in_goal (becomes c theta n)) c.body
