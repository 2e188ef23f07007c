-- Small facts on effects, with values worked out by hand.
use Rattle.std.specs.Prelude.{ℕ, pos, List, [], ◌∷◌, codes}
use Rattle.std.specs.FinMap as finite
use Rattle.std.specs.FinSet as set
use Rattle.ghc_term.specs.declared.var_name.VarName.{VarName}
use Rattle.ghc_term.specs.Tree.{Tree, variable, integer, nil, cons}
use Rattle.ghc_term.specs.Goal.{Goal, call, unify, stream}
use Rattle.ghc_flat.specs.Samples.{asked, v, store, appends}
use Rattle.ghc_fire.specs.Instance.{made}
use Rattle.ghc_fire.specs.declared.act.Act.TheVariants.{ByClause as by_clause, Unified as unified, Given as given, Closed as closed}
use Rattle.ghc_fire.specs.Effect.{Effect, HasEffect}

-- the effect with these reads, bindings, goals and so many fresh variables
abbrev pub effect : List VarName → List (VarName × Tree) → List Goal → ℕ → Effect
effect reads binds makes fresh = record { reads = set.from_list reads; binds = finite.from_entries binds; makes = makes; fresh = fresh }

-- the list `[1]`
abbrev pub list_1 : Tree
list_1 = cons (integer (pos 1)) nil

-- the list `[2]`
abbrev pub list_2 : Tree
list_2 = cons (integer (pos 2)) nil

-- `[1|_1_1]`
abbrev pub partial_list : Tree
partial_list = cons (integer (pos 1)) (variable (made 1 1))

-- The four steps of `append([1],[2],R)`: by clause 2 it makes `R = [1|_1_1]` and `append([],[2],_1_1)`; the first of these binds R; the second makes by clause 1 `_1_1 = [2]`, which binds `_1_1`. None reads anything.
abbrev pub AppendRun : Type 0
AppendRun =
    HasEffect appends (call (codes "append") (list_1 ∷ list_2 ∷ v 1 ∷ [])) (by_clause 2) 1 (store [])
    (effect [] [] (unify (v 1) partial_list ∷ call (codes "append") (nil ∷ list_2 ∷ variable (made 1 1) ∷ []) ∷ []) 1)
    × HasEffect appends (unify (v 1) partial_list) unified 2 (store []) (effect [] ((asked 1, partial_list) ∷ []) [] 0)
    × HasEffect appends (call (codes "append") (nil ∷ list_2 ∷ variable (made 1 1) ∷ [])) (by_clause 1) 3 (store ((asked 1, partial_list) ∷ []))
    (effect [] [] (unify (variable (made 1 1)) list_2 ∷ []) 0)
    × HasEffect appends (unify (variable (made 1 1)) list_2) unified 4 (store ((asked 1, partial_list) ∷ [])) (effect [] ((made 1 1, list_2) ∷ []) [] 0)

-- The input 5 as step 1 binds the stream's variable to `[5|_1_1]`; then 7 as step 2 binds `_1_1` to `[7|_2_1]`; then closing the stream binds `_2_1` to `[]`.
abbrev pub InputAndClose : Type 0
InputAndClose =
    HasEffect [] (stream 1 (asked 1)) (given (integer (pos 5))) 1 (store [])
    (effect [] ((asked 1, cons (integer (pos 5)) (variable (made 1 1))) ∷ []) (stream 1 (made 1 1) ∷ []) 1)
    × HasEffect [] (stream 1 (made 1 1)) (given (integer (pos 7))) 2 (store ((asked 1, cons (integer (pos 5)) (variable (made 1 1))) ∷ []))
    (effect [] ((made 1 1, cons (integer (pos 7)) (variable (made 2 1))) ∷ []) (stream 1 (made 2 1) ∷ []) 1)
    × HasEffect [] (stream 1 (made 2 1)) closed 3
    (store ((asked 1, cons (integer (pos 5)) (variable (made 1 1))) ∷ (made 1 1, cons (integer (pos 7)) (variable (made 2 1))) ∷ []))
    (effect [] ((made 2 1, nil) ∷ []) [] 0)

-- An input through an alias reads the alias: after `S = T`, 5 binds T and reads S.
abbrev pub InputReadsAlias : Type 0
InputReadsAlias =
    HasEffect [] (stream 1 (asked 1)) (given (integer (pos 5))) 1 (store ((asked 1, v 2) ∷ []))
    (effect (asked 1 ∷ []) ((asked 2, cons (integer (pos 5)) (variable (made 1 1))) ∷ []) (stream 1 (made 1 1) ∷ []) 1)

-- After `S = []` no input is possible.
abbrev pub BoundTailTakesNothing : Type 0
BoundTailTakesNothing = (e : Effect) → ¬ HasEffect [] (stream 1 (asked 1)) (given (integer (pos 5))) 1 (store ((asked 1, nil) ∷ [])) e
