-- Goals that are asked for in mid-run, and the steps that ask for them.
use Rattle.std.specs.Prelude.{◌≡◌, ◌≢◌, ◌≤◌, ◌==◌, ◌+◌, ◌-◌, ℕ, zero, suc, List, [], ◌∷◌, length, map, filter, Option, Some, None, slice_get, unwrap_or, if◌then◌else◌}
use Rattle.std.specs.FinMap as finite
use Rattle.std.specs.FinSet as set
use Rattle.ghc_term.specs.declared.var_name.VarName.{VarName}
use Rattle.ghc_term.specs.Tree.{Tree, variable}
use Rattle.ghc_term.specs.Goal.{Goal}
use Rattle.ghc_term.specs.Lists.{In}
use Rattle.ghc_reader.specs.Written.{AreNarrow}
use Rattle.ghc_reader.specs.WrittenAsk.{WrittenAsk}
use Rattle.ghc_flat.specs.Clause.{Program}
use Rattle.ghc_flat.specs.Flat.{is_stream, most_goals, AreDefined}
use Rattle.ghc_flat.specs.Variables.{variables_of_goals, firsts}
use Rattle.ghc_fire.specs.Instance.{made, replace_in_goal}
use Rattle.ghc_fire.specs.declared.act.Act.{Act}
use Rattle.ghc_fire.specs.declared.act.Act.TheVariants.{ByClause as by_clause, Unified as unified, Assigned as assigned, Given as given, Closed as closed, Asked as asked}
use Rattle.ghc_fire.specs.Effect.{Effect, no_step}
use Rattle.ghc_fire.specs.Proposal.{numbered}

-- the variables of the goals for which an act asks, each once, in the order in which they stand first
abbrev pub variables_asked : Act → List VarName
variables_asked (by_clause k) = []
variables_asked unified = []
variables_asked assigned = []
variables_asked (given u) = []
variables_asked closed = []
variables_asked (asked gs) = firsts [] (variables_of_goals gs)

-- the variables of step n in the goals, by first occurrence
abbrev pub own_variables : ℕ → List Goal → List VarName
own_variables n gs = filter (λ x. x.step == n) (firsts [] (variables_of_goals gs))

-- `_n_i`, `_n_(i+1)`, .., so many of them
abbrev pub made_from : ℕ → ℕ → ℕ → List VarName
made_from n i zero = []
made_from n i (suc k) = made n i ∷ made_from n (i + 1) k

-- No variable of the goals is one of step n.
abbrev pub NameNoneOf : ℕ → List Goal → Type 0
NameNoneOf n gs = (x : VarName) → In x (variables_of_goals gs) → x.step ≢ n

-- The goals can be asked for: they are no more than a body may have, none is a stream, and no call has more arguments than a goal may have.
pub record AreAskable (gs : List Goal) : Type 0 where
  pub few : length gs ≤ most_goals
  pub plain : filter is_stream gs ≡ []
  pub narrow : AreNarrow gs

-- Step n asks for these goals, whose calls are defined: it reads and binds nothing, and makes the goals as they are written; its own variables in them are `_n_1`, `_n_2`, .. by first occurrence.
pub record Asks (P : Program) (gs : List Goal) (n : ℕ) (e : Effect) : Type 0 where
  pub askable : AreAskable gs
  pub defined : AreDefined P gs
  pub reads : e.reads ≡ set.empty
  pub binds : e.binds ≡ finite.empty
  pub makes : e.makes ≡ gs
  pub own : own_variables n gs ≡ made_from n 1 e.fresh

-- An ask is goals that can be asked for, before a step does: their new variables are those of no step, in order.
abbrev pub IsAsk : List Goal → Type 0
IsAsk gs = AreAskable gs × ((k : ℕ) × (own_variables no_step gs ≡ made_from no_step 1 k))

-- what the variable x is as step n has it: a new one is of step n
abbrev pub renumbered : ℕ → VarName → VarName
renumbered n x = if x.step == no_step then made n x.place else x

-- the goals of an ask as step n asks for them: its new variables are those of step n
abbrev pub asked_as : ℕ → List Goal → List Goal
asked_as n gs = map (replace_in_goal (numbered n)) gs

-- What a named variable is in an ask: itself, or `_0_0`, which is nothing, where it would be one of no step.
abbrev pub named_so : VarName → VarName
named_so x = if x.step == no_step then made 0 0 else x

-- what the variables of a written ask are in an ask, the new ones from the i-th on
abbrev pub called : ℕ → List (Option VarName) → List VarName
called i [] = []
called i (None ∷ os) = made no_step i ∷ called (i + 1) os
called i (Some x ∷ os) = named_so x ∷ called i os

-- What the variable `_0_i` becomes, by the i-th of a list.
abbrev pub called_by : List VarName → VarName → Tree
called_by xs y = variable (unwrap_or (slice_get xs (y.place - 1)) y)

-- the ask that is written so
abbrev pub asked_of : WrittenAsk → List Goal
asked_of a = map (replace_in_goal (called_by (called 1 a.named))) a.goals

-- what a step does that asks for these goals and makes k variables
abbrev pub effect_of_asking : List Goal → ℕ → Effect
effect_of_asking gs k = record { reads = set.empty; binds = finite.empty; makes = gs; fresh = k }
