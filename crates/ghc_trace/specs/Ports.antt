-- The ports of a step that is about to be taken.
use Rattle.std.specs.Prelude.{◌≡◌, ◌↔◌, ℕ, ◌+◌, List, [], ◌∷◌, ◌++◌, map}
use Rattle.std.specs.declared.cmp.Ordering.TheVariants.{Less}
use Rattle.ghc_term.specs.declared.var_name.VarName.{VarName}
use Rattle.ghc_term.specs.declared.goal_name.GoalName.{GoalName}
use Rattle.ghc_term.specs.Lists.{In}
use Rattle.ghc_term.specs.Goal.{Goal}
use Rattle.ghc_fire.specs.Goals.{goal_cmp}
use Rattle.ghc_records.specs.Orders.{Precedes}
use Rattle.ghc_records.specs.Record.{Record}
use Rattle.ghc_records.specs.Journal.{Step, step_of}
use Rattle.ghc_hooks.specs.Face.{IsHookedOn}
use Rattle.ghc_depend.specs.Depend.{Binds}
use Rattle.ghc_core.specs.World.{World}

-- A port: a step is taken, a goal is made, or a waiting goal is to be tried again.
pub data Port : Type 0 where
  reduced : Step → Port
  called : GoalName → Goal → Port
  resumed : GoalName → Port

-- The step of the record binds a variable on which the goal named g has a hook.
abbrev pub Resumes : World → Record → GoalName → Type 0
Resumes w r g = (x : VarName) × IsHookedOn w.opening.program w.state.goals w.state.store x g × Binds r x

-- the ports of the goals that step n makes, from place i on
abbrev pub calls : ℕ → ℕ → List Goal → List Port
calls n i [] = []
calls n i (g ∷ gs) = called (record { step = n; place = i }) g ∷ calls n (i + 1) gs

-- The ports of a step without those of the goals that it resumes, which hooks tell: that it is taken, then the goals that it makes by place.
abbrev pub taken_ports : Record → List Port
taken_ports r = reduced (step_of r) ∷ calls r.number 1 r.effect.makes

-- The ports of a step: that it is taken, then the goals that it makes by place, then the goals that it resumes by name.
abbrev pub ArePorts : World → Record → List Port → Type 0
ArePorts w r ports =
    (woken : List GoalName) × ((g : GoalName) → In g woken ↔ Resumes w r g) × ((g h : GoalName) → Precedes woken g h → goal_cmp g h ≡ Less)
    × (ports ≡ taken_ports r ++ map resumed woken)
