-- What a step reads, binds and makes.
use Rattle.std.specs.Prelude.{◌≡◌, ◌⊎◌, IsTrue, ℕ, ℤ, List, [], ◌∷◌, length, Option, None}
use Rattle.std.specs.FinMap as finite
use Rattle.std.specs.FinSet as set
use Rattle.ghc_term.specs.declared.var_name.VarName.{VarName}
use Rattle.ghc_term.specs.Tree.{Tree, variable, integer, nil, cons, IsClosed}
use Rattle.ghc_term.specs.Expression.{Expression}
use Rattle.ghc_term.specs.Goal.{Goal, call, unify, assign, stream}
use Rattle.ghc_term.specs.Lists.{In}
use Rattle.ghc_term.specs.Bindings.{Leads, Comes}
use Rattle.ghc_term.specs.Store.{StoreValue}
use Rattle.ghc_flat.specs.Clause.{Clause, Program, IsClause, IsFor}
use Rattle.ghc_flat.specs.Variables.{leaf_variables, fresh_variables}
use Rattle.ghc_term.specs.Sets.{Variables, IsSetOf}
use Rattle.ghc_match.specs.Position.{EndsIn}
use Rattle.ghc_match.specs.Value.{Number}
use Rattle.ghc_match.specs.Match.{HasOutcome, accepts}
use Rattle.ghc_unify.specs.Unify.{Unifies}
use Rattle.ghc_fire.specs.declared.act.Act.{Act}
use Rattle.ghc_fire.specs.declared.act.Act.TheVariants.{ByClause as by_clause, Unified as unified, Assigned as assigned, Given as given, Closed as closed, Asked as asked}
use Rattle.ghc_fire.specs.Instance.{made, body_made}

-- An effect is what a step reads and binds, which goals it makes, and how many variables.
pub record Effect : Type 0 where
  pub reads : Variables
  pub binds : StoreValue
  pub makes : List Goal
  pub fresh : ℕ

-- The variable x is on the chain of a variable of the expression.
abbrev pub IsOnChainsOf : (VarName → Option Tree) → Expression → VarName → Type 0
IsOnChainsOf S a x = (y : VarName) × (e : Tree) × (xs : List VarName) × In y (leaf_variables a) × Leads S (variable y) xs e × In x xs

-- Clause k reduces the call `f(ts)`: it accepts, nothing is bound, and its body is made.
abbrev pub Reduces : Program → List ℕ → List Tree → ℕ → ℕ → (VarName → Option Tree) → Effect → Type 0
Reduces P f ts k n S e =
    (c : Clause) × (theta : StoreValue) × IsClause P k c × IsFor f ts c × HasOutcome c ts S (accepts theta e.reads)
    × (e.binds ≡ finite.empty) × (e.makes ≡ body_made c theta n) × (e.fresh ≡ length (fresh_variables c))

-- The equation `l = r` is solved by what is bound, and nothing is made.
abbrev pub Unites : Tree → Tree → (VarName → Option Tree) → Effect → Type 0
Unites l r S e = Unifies S l r e.binds e.reads × (e.makes ≡ []) × (e.fresh ≡ 0)

-- The expression a has the value v, `t = v` is solved by what is bound, and what computing and solving read was read.
abbrev pub Assigns : Tree → Expression → (VarName → Option Tree) → Effect → Type 0
Assigns t a S e =
    (v : ℤ) × (rest : Variables) × Number (EndsIn S) a v × Unifies S t (integer v) e.binds rest
    × IsSetOf e.reads (λ x. IsOnChainsOf S a x ⊎ IsTrue (set.contains rest x)) × (e.makes ≡ []) × (e.fresh ≡ 0)

-- The chain of the tail s ends unbound at x, and what stands before x was read.
abbrev pub ReadsTail : VarName → (VarName → Option Tree) → VarName → Effect → Type 0
ReadsTail s S x e = (xs : List VarName) × Comes S (variable s) xs x × (S x ≡ None) × (e.reads ≡ set.from_list xs)

-- The stream k with the tail s gets the input u: the end of its tail is bound to a list cell of u and a fresh tail, with which the stream goes on.
abbrev pub Feeds : ℕ → VarName → Tree → ℕ → (VarName → Option Tree) → Effect → Type 0
Feeds k s u n S e =
    (x : VarName) × IsClosed u × ReadsTail s S x e
    × (e.binds ≡ finite.insert finite.empty x (cons u (variable (made n 1)))) × (e.makes ≡ stream k (made n 1) ∷ []) × (e.fresh ≡ 1)

-- The stream with the tail s is closed: the end of its tail is bound to `[]`.
abbrev pub Closes : VarName → (VarName → Option Tree) → Effect → Type 0
Closes s S e = (x : VarName) × ReadsTail s S x e × (e.binds ≡ finite.insert finite.empty x nil) × (e.makes ≡ []) × (e.fresh ≡ 0)

-- In the store S, the act on the goal has this effect as step n; an act of another kind than the goal has none.
abbrev pub HasEffect : Program → Goal → Act → ℕ → (VarName → Option Tree) → Effect → Type 0
HasEffect P (call f ts) (by_clause k) n S e = Reduces P f ts k n S e
HasEffect P (call f ts) unified n S e = ⊥
HasEffect P (call f ts) assigned n S e = ⊥
HasEffect P (call f ts) (given u) n S e = ⊥
HasEffect P (call f ts) closed n S e = ⊥
HasEffect P (call f ts) (asked gs) n S e = ⊥
HasEffect P (unify l r) (by_clause k) n S e = ⊥
HasEffect P (unify l r) unified n S e = Unites l r S e
HasEffect P (unify l r) assigned n S e = ⊥
HasEffect P (unify l r) (given u) n S e = ⊥
HasEffect P (unify l r) closed n S e = ⊥
HasEffect P (unify l r) (asked gs) n S e = ⊥
HasEffect P (assign t a) (by_clause k) n S e = ⊥
HasEffect P (assign t a) unified n S e = ⊥
HasEffect P (assign t a) assigned n S e = Assigns t a S e
HasEffect P (assign t a) (given u) n S e = ⊥
HasEffect P (assign t a) closed n S e = ⊥
HasEffect P (assign t a) (asked gs) n S e = ⊥
HasEffect P (stream k s) (by_clause j) n S e = ⊥
HasEffect P (stream k s) unified n S e = ⊥
HasEffect P (stream k s) assigned n S e = ⊥
HasEffect P (stream k s) (given u) n S e = Feeds k s u n S e
HasEffect P (stream k s) closed n S e = Closes s S e
HasEffect P (stream k s) (asked gs) n S e = ⊥

-- The number that no step has; the effect under it stands for the effect under any number.
abbrev pub no_step : ℕ
no_step = 4294967295
