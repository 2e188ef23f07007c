-- What a change of the world gives to tell of goals that are stuck.
use Rattle.std.specs.Prelude.{◌≡◌, ◌↔◌, ℕ, List, [], ◌∷◌, ◌++◌, codes}
use Rattle.std.specs.Fmt.{decimal}
use Rattle.std.specs.declared.cmp.Ordering.TheVariants.{Less}
use Rattle.ghc_term.specs.declared.goal_name.GoalName.{GoalName}
use Rattle.ghc_term.specs.Fault.{fault_number}
use Rattle.ghc_term.specs.Lists.{In}
use Rattle.ghc_fire.specs.Goals.{goal_cmp}
use Rattle.ghc_records.specs.Orders.{Precedes}
use Rattle.ghc_records.specs.StepText.{goal_name_text, variables_text}
use Rattle.ghc_hooks.specs.Status.{Status, ready, waiting, failed, streaming}
use Rattle.ghc_hooks.specs.Face.{StandsAs}
use Rattle.ghc_core.specs.World.{World}

-- The goal named g is in the world, and has the status s.
abbrev pub Stands : World → GoalName → Status → Type 0
Stands w g s = StandsAs w.opening.program w.state.goals w.state.store g s

-- A status that has a line: the goal waits, or has failed.
abbrev pub IsStuck : Status → Type 0
IsStuck ready = ⊥
IsStuck (waiting xs) = Unit {0}
IsStuck (failed f) = Unit {0}
IsStuck streaming = ⊥

-- In the world v the goal named g is stuck in a way in which it was not in the world w: it was not there, or stood otherwise.
abbrev pub IsNews : World → World → GoalName → Status → Type 0
IsNews w v g s = Stands v g s × IsStuck s × ¬ Stands w g s

-- a status with the name of a goal: its status now
abbrev pub Standing : Type 0
Standing = GoalName × Status

-- The news of a change from the world w to the world v, by goal name.
pub record AreNews (w v : World) (news : List Standing) : Type 0 where
  pub each : (g : GoalName) (s : Status) → In (g, s) news ↔ IsNews w v g s
  pub ordered : (a b : Standing) → Precedes news a b → goal_cmp a.0 b.0 ≡ Less

-- the refusal of a goal that has failed, as `F10`
abbrev pub cause_text : ℕ → List ℕ
cause_text number = codes "F" ++ decimal number

-- a status: `ready`, `waits _0_1,_0_2`, `failed F10` or `stream`
abbrev pub status_text : Status → List ℕ
status_text ready = codes "ready"
status_text (waiting xs) = codes "waits " ++ variables_text xs
status_text (failed f) = codes "failed " ++ cause_text (fault_number f)
status_text streaming = codes "stream"

-- the line of a goal that is stuck, as `SUSP 0.1 _0_1,_0_2` or `FAIL 0.1 F10`; of one that is not, nothing
abbrev pub news_line : Standing → List ℕ
news_line (g, ready) = []
news_line (g, waiting xs) = codes "SUSP " ++ (goal_name_text g ++ (codes " " ++ (variables_text xs ++ codes "\n")))
news_line (g, failed f) = codes "FAIL " ++ (goal_name_text g ++ (codes " " ++ (cause_text (fault_number f) ++ codes "\n")))
news_line (g, streaming) = []

-- news, a line each
abbrev pub news_text : List Standing → List ℕ
news_text [] = []
news_text (n ∷ ns) = news_line n ++ news_text ns
