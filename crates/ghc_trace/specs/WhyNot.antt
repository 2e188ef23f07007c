-- Why a variable is not bound: what is asked about with it, who holds that, which steps let go of it, and whether a goal may still bind it.
use Rattle.std.specs.Prelude.{◌≡◌, ◌⊎◌, ◌↔◌, ℕ, List, [], ◌∷◌, ◌++◌, codes, Some}
use Rattle.std.specs.List.Sorted.{IsStrictlySortedBy}
use Rattle.ghc_term.specs.declared.var_name.VarName.{VarName}
use Rattle.ghc_term.specs.declared.goal_name.GoalName.{GoalName}
use Rattle.ghc_term.specs.Bindings.{name_cmp}
use Rattle.ghc_term.specs.Goal.{Goal}
use Rattle.ghc_term.specs.Lists.{In}
use Rattle.ghc_term.specs.Sets.{IsSetOf, Variables}
use Rattle.ghc_term.specs.Store.{value_at}
use Rattle.ghc_term.specs.Text.{variable_text}
use Rattle.ghc_fire.specs.declared.act.Act.TheVariants.{ByClause as by_clause}
use Rattle.ghc_hooks.specs.Face.{IsHookedOn}
use Rattle.ghc_hooks.specs.Status.{ready, streaming}
use Rattle.ghc_records.specs.Orders.{Picks}
use Rattle.ghc_records.specs.Record.{Record}
use Rattle.ghc_core.specs.World.{World}
use Rattle.ghc_trace.specs.declared.holding.Holder.{Holder}
use Rattle.ghc_trace.specs.Explaining.{AreHolderLines}
use Rattle.ghc_trace.specs.Holding.{AreHoldersAmong, GoalReaches, IsReaching}
use Rattle.ghc_trace.specs.News.{Stands}
use Rattle.ghc_trace.specs.StepGoals.{step_with_goal}

-- The goal named g waits for the variable, among others.
abbrev pub IsAwaitedBy : World → GoalName → VarName → Type 0
IsAwaitedBy w g y = IsHookedOn w.opening.program w.state.goals w.state.store y g

-- The variable is asked about, where one asks about those of which First holds: it is one of these, or a goal that reaches a variable asked about waits for it.
pub data IsAskedAbout (w : World) (First : VarName → Type 0) : VarName → Type 0 where
  asked_first : {y : VarName} → First y → IsAskedAbout w First y
  awaited_there : {y z : VarName} (g : GoalName) → IsAskedAbout w First z → IsReaching w.state (record { variable = z; goal = g })
      → IsAwaitedBy w g y → IsAskedAbout w First y

-- The goal named g may take a step: it is ready, or a stream goal.
abbrev pub MayGoOn : World → GoalName → Type 0
MayGoOn w g = Stands w g ready ⊎ Stands w g streaming

-- A goal that reaches a variable asked about may take a step.
abbrev pub MayBeBound : World → (VarName → Type 0) → Type 0
MayBeBound w First = (h : Holder) × IsAskedAbout w First h.variable × IsReaching w.state h × MayGoOn w h.goal

-- The kept step r lost the variable: by a clause it took a goal that reaches it in the present store, and made no goal that does.
pub record HasLost (w : World) (y : VarName) (r : Record) : Type 0 where
  pub kept : In r w.kept
  pub by_some_clause : (k : ℕ) × (r.act ≡ by_clause k)
  pub had : (b : Goal) × (r.consumed ≡ Some b) × GoalReaches (value_at w.state.store) b y
  pub gave_on : (c : Goal) → In c r.effect.makes → ¬ GoalReaches (value_at w.state.store) c y

-- the line of a variable with a step that lost it, and the goal that the step took, as `_1_2 lost by 17 9.3 by 8 skip(_1_2)`
abbrev pub lost_line : VarName → Record → List ℕ
lost_line y r = variable_text y ++ (codes " lost by " ++ (step_with_goal r ++ codes "\n"))

-- the lines of a variable with steps that lost it
abbrev pub lost_lines : VarName → List Record → List ℕ
lost_lines y [] = []
lost_lines y (r ∷ rs) = lost_line y r ++ lost_lines y rs

-- AreLostLines w ys text: the text is, for each of the variables in their order, a line for each kept step that lost it, in recorded order.
pub data AreLostLines (w : World) : List VarName → List ℕ → Type 0 where
  no_variable : AreLostLines w [] []
  and_variable : {ys : List VarName} {text : List ℕ} (y : VarName) (lost : List Record) → AreLostLines w ys text → Picks (HasLost w y) w.kept lost
      → AreLostLines w (ys ++ y ∷ []) (text ++ lost_lines y lost)

-- Listed are all variables asked about, by name.
abbrev pub AreAskedAbout : World → (VarName → Type 0) → List VarName → Type 0
AreAskedAbout w First ys = IsStrictlySortedBy name_cmp ys × ((y : VarName) → In y ys ↔ IsAskedAbout w First y)

-- TellsVerdict w First line: the line says whether a goal may still bind a variable asked about.
pub data TellsVerdict (w : World) (First : VarName → Type 0) : List ℕ → Type 0 where
  may_be_bound : MayBeBound w First → TellsVerdict w First (codes "may be bound\n")
  stays_unbound : ¬ MayBeBound w First → TellsVerdict w First (codes "stays unbound\n")

-- TellsWhyNot w First text: the text has a line for each goal that reaches a variable asked about, with its status, by variable, then goal; a line for each step that lost one, by variable, then in recorded order; and whether one may still be bound. Where nothing is asked about it is empty.
pub data TellsWhyNot (w : World) (First : VarName → Type 0) : List ℕ → Type 0 where
  asks_nothing : ((y : VarName) → ¬ First y) → TellsWhyNot w First []
  tells_why_not : (x : VarName) (asked : Variables) (ys : List VarName) (hs : List Holder) (held lost line : List ℕ) → First x → IsSetOf asked (IsAskedAbout w First)
      → AreHoldersAmong w.state asked hs → AreHolderLines w hs held → AreAskedAbout w First ys → AreLostLines w ys lost → TellsVerdict w First line
      → TellsWhyNot w First (held ++ (lost ++ line))
