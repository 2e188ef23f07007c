-- The goals of a state and of a clause's body.
use Rattle.std.specs.Prelude.{ℕ, List}
use Rattle.ghc_term.specs.declared.var_name.VarName.{VarName}
use Rattle.ghc_term.specs.Tree.{Tree}
use Rattle.ghc_term.specs.Expression.{Expression}

-- A goal is a call of a name over its arguments, a unification `t = u`, an assignment `t := e`, or the stream k with its tail.
pub data Goal : Type 0 where
  call : List ℕ → List Tree → Goal
  unify : Tree → Tree → Goal
  assign : Tree → Expression → Goal
  stream : ℕ → VarName → Goal
