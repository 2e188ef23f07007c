-- The part of a store that some terms reach.
use Rattle.std.specs.Prelude.{◌≡◌, ◌⊎◌, ◌++◌, ◌+◌, ◌≤◌, ℕ, List, [], ◌∷◌, Option, Some, None}
use Rattle.ghc_term.specs.declared.var_name.VarName.{VarName}
use Rattle.ghc_term.specs.Tree.{Tree, trees, Occurs, IsClosed}
use Rattle.ghc_term.specs.Bindings.{Reaches, with_binding}
use Rattle.ghc_term.specs.Lists.{In}
use Rattle.ghc_records.specs.Orders.{Picks}
use Rattle.ghc_core.specs.GoneThrough.{GoThrough}

-- M tells of all variables that the terms reach in M what S tells.
abbrev pub IsCutOut : (VarName → Option Tree) → (VarName → Option Tree) → List Tree → Type 0
IsCutOut S M ts = (t : Tree) (x : VarName) → In t ts → Reaches M t x → S x ≡ M x

-- M tells of x what S tells, or x stands in a term that waits.
abbrev pub IsToldOrWaits : (VarName → Option Tree) → (VarName → Option Tree) → List Tree → VarName → Type 0
IsToldOrWaits S M ws x = (S x ≡ M x) ⊎ ((w : Tree) × In w ws × Occurs x w)

-- While M is cut out of S for the terms ts, these terms wait: what is in M is in S, and M tells of each variable of a term or of a value of M what S tells, or it stands in a term that waits.
pub record IsCuttingOut (S M : VarName → Option Tree) (ts ws : List Tree) : Type 0 where
  pub within : (x : VarName) (u : Tree) → M x ≡ Some u → S x ≡ Some u
  pub terms : (t : Tree) (x : VarName) → In t ts → Occurs x t → IsToldOrWaits S M ws x
  pub values : (y : VarName) (u : Tree) (x : VarName) → M y ≡ Some u → Occurs x u → IsToldOrWaits S M ws x

-- Of the terms to be gone through for ts, i were gone through. Those that wait are open, and for these and the i no more are gone through than for ts.
pub record IsGoingThrough (S : VarName → Option Tree) (ts ws : List Tree) (i : ℕ) : Type 0 where
  pub waits : (w : Tree) → In w ws → ¬ IsClosed w
  pub counts : (n : ℕ) → GoThrough S (trees ts) n → (m : ℕ) × GoThrough S (trees ws) m × (m + i ≤ n)

-- Where ws waited, ws' wait: ws, and behind them the terms ts, in order, but for those that are closed.
abbrev pub OpenOnesWait : List Tree → List Tree → List Tree → Type 0
OpenOnesWait ts ws ws' = (us : List Tree) × Picks (λ t. ¬ IsClosed t) ts us × (ws' ≡ ws ++ us)

-- TakesOver S x M M' ws ws': M' has the value of x from S, if x has one there and none in M, and then the value waits, if it is not closed.
pub data TakesOver (S : VarName → Option Tree) (x : VarName) (M : VarName → Option Tree) : (VarName → Option Tree) → List Tree → List Tree → Type 0 where
  has_it : {u : Tree} {ws : List Tree} → M x ≡ Some u → TakesOver S x M M ws ws
  is_unbound : {ws : List Tree} → M x ≡ None → S x ≡ None → TakesOver S x M M ws ws
  takes : {u : Tree} {ws ws' : List Tree} → M x ≡ None → S x ≡ Some u → OpenOnesWait (u ∷ []) ws ws' → TakesOver S x M (with_binding M x u) ws ws'
