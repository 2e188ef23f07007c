-- Asking for goals in mid-run: which steps an ask asks for, and why it is refused.
use Rattle.std.specs.Prelude.{◌≡◌, ◌≢◌, ℕ, List, length, None}
use Rattle.ghc_term.specs.declared.fault.Fault.{Fault}
use Rattle.ghc_term.specs.declared.var_name.VarName.{VarName}
use Rattle.ghc_term.specs.Goal.{Goal}
use Rattle.ghc_term.specs.Lists.{In}
use Rattle.ghc_flat.specs.Clause.{Clause, Program, Query, IsClause}
use Rattle.ghc_flat.specs.Checked.{IsFirstCallWithout}
use Rattle.ghc_flat.specs.Variables.{variables_of_goals}
use Rattle.ghc_fire.specs.declared.act.Act.TheVariants.{Asked as asked}
use Rattle.ghc_fire.specs.Asked.{IsAsk, NameNoneOf, asked_as}
use Rattle.ghc_fire.specs.Effect.{no_step}
use Rattle.ghc_records.specs.Record.{Record}
use Rattle.ghc_records.specs.Replay.{IsVariableOf}
use Rattle.ghc_core.specs.World.{World, IsFull}
use Rattle.ghc_core.specs.Refusals.{IsToldWhere, OrElse}

-- The program has a clause of this name and arity.
abbrev pub HasClauseFor : Program → List ℕ → ℕ → Type 0
HasClauseFor P f n = (k : ℕ) × (c : Clause) × IsClause P k c × (c.name ≡ f) × (length c.head ≡ n)

-- The fault names the first of the goals that is a call without a clause.
abbrev pub HasUndefined : World → List Goal → Fault → Type 0
HasUndefined w gs f = (name : List ℕ) × (n : ℕ) × (f ≡ Fault.Undefined name n) × IsFirstCallWithout (HasClauseFor w.opening.program) gs name n

-- Each variable of the goals is a new one, or the query's, or one of the steps made it.
abbrev pub NamesKnownIn : Query → List Record → List Goal → Type 0
NamesKnownIn query rs gs = (x : VarName) → In x (variables_of_goals gs) → x.step ≢ no_step → IsVariableOf query rs x

-- Each variable of the goals is a new one, or the query's, or a kept step made it.
abbrev pub NameKnown : World → List Goal → Type 0
NameKnown w gs = NamesKnownIn w.opening.query w.kept gs

-- The step asks for these goals, in which its own variables stand for the new ones; they name none of its own. (Else `_n_1`, which step n makes, would be known in what step n asks for.)
abbrev pub IsOfAsk : List Goal → Record → Type 0
IsOfAsk gs r = IsAsk gs × NameNoneOf r.number gs × (r.goal ≡ None) × (r.act ≡ asked (asked_as r.number gs))

-- Why goals are not asked for: a call among them has no clause; or else they name a variable that is not known; or else the world is full.
pub record AskFails (w : World) (gs : List Goal) (f : Fault) : Type 0 where
  pub first : OrElse (HasUndefined w gs) (OrElse (IsToldWhere Fault.NoVariable (¬ NameKnown w gs)) (IsToldWhere Fault.Full (IsFull w))) f
