-- Programs and stores of the facts.
use Rattle.std.specs.Prelude.{ℕ, List, [], ◌∷◌, Option, codes}
use Rattle.std.specs.FinMap as finite
use Rattle.ghc_term.specs.declared.var_name.VarName.{VarName}
use Rattle.ghc_term.specs.Tree.{Tree, variable, atom, nil, cons}
use Rattle.ghc_term.specs.Goal.{call, unify}
use Rattle.ghc_term.specs.Bindings.{name_cmp}
use Rattle.ghc_flat.specs.Clause.{Clause, Program}

-- the variable `_0_i`: the i-th of a query, or of a clause
abbrev pub asked : ℕ → VarName
asked i = record { step = 0; place = i }

-- the variable `_0_i` as a tree
abbrev pub v : ℕ → Tree
v i = variable (asked i)

-- the store with these bindings
abbrev pub store : List (VarName × Tree) → VarName → Option Tree
store bs x = finite.find name_cmp x bs

-- `p(a,b) :- true | true.`
abbrev pub both_atoms : Clause
both_atoms = record { name = codes "p"; head = atom (codes "a") ∷ atom (codes "b") ∷ []; tests = []; body = [] }

-- `append([],Y,Z) :- true | Z = Y.`
abbrev pub append_nothing : Clause
append_nothing = record { name = codes "append"; head = nil ∷ v 1 ∷ v 2 ∷ []; tests = []; body = unify (v 2) (v 1) ∷ [] }

-- `append([A|X],Y,Z) :- true | Z = [A|Z1], append(X,Y,Z1).`
abbrev pub append_cell : Clause
append_cell = record {
  name = codes "append";
  head = cons (v 1) (v 2) ∷ v 3 ∷ v 4 ∷ [];
  tests = [];
  body = unify (v 4) (cons (v 1) (v 5)) ∷ call (codes "append") (v 2 ∷ v 3 ∷ v 5 ∷ []) ∷ [];
}

-- these two
abbrev pub appends : Program
appends = append_nothing ∷ append_cell ∷ []
