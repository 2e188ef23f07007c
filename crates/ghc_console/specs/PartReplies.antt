-- How `part` tells what a call was given, and what it gave.
use Rattle.std.specs.Prelude.{◌≡◌, ◌⊎◌, ℕ, List, Some}
use Rattle.std.specs.FinMap as finite
use Rattle.ghc_term.specs.declared.goal_name.GoalName.{GoalName}
use Rattle.ghc_term.specs.declared.fault.Fault.{Fault}
use Rattle.ghc_term.specs.declared.limit.Limit.TheVariants as limit
use Rattle.ghc_term.specs.Goal.{Goal, call, unify, assign, stream}
use Rattle.ghc_term.specs.Lists.{In}
use Rattle.ghc_records.specs.Record.{Record}
use Rattle.ghc_core.specs.World.{World}
use Rattle.ghc_trace.specs.PartLines.{HasTooLongText, TellsCall}
use Rattle.ghc_console.specs.TextLines.{refusal}

-- The goal b has the name g: it is there, or a kept step took it.
abbrev pub IsNamedSo : World → GoalName → Goal → Type 0
IsNamedSo w g b = (finite.get w.state.goals g ≡ Some b) ⊎ ((r : Record) × In r w.kept × (r.goal ≡ Some g) × (r.consumed ≡ Some b))

-- The text tells what the call b, named g, was given and what it gave; or it is the refusal, where a text would be too long.
abbrev pub TellsCallOrTooLong : World → GoalName → Goal → List ℕ → Type 0
TellsCallOrTooLong w g b text = TellsCall w g b text ⊎ (HasTooLongText w g b × (text ≡ refusal (Fault.Limit limit.Print)))

-- TellsPartOf w g b text: the text is the reply on the goal b, named g. It is refused where that is no call, and as no goal where it is a stream.
abbrev pub TellsPartOf : World → GoalName → Goal → List ℕ → Type 0
TellsPartOf w g (unify l r) text = text ≡ refusal Fault.NoClause
TellsPartOf w g (assign t e) text = text ≡ refusal Fault.NoClause
TellsPartOf w g (stream k x) text = text ≡ refusal Fault.NoGoal
TellsPartOf w g (call f ts) text = TellsCallOrTooLong w g (call f ts) text

-- RepliesToPart w g text: what the call named g was given, and what it gave; or the refusal, where no goal has the name, or it is no call.
pub data RepliesToPart (w : World) (g : GoalName) : List ℕ → Type 0 where
  part_of_no_goal : ((b : Goal) → ¬ IsNamedSo w g b) → RepliesToPart w g (refusal Fault.NoGoal)
  tells_part : {text : List ℕ} (b : Goal) → IsNamedSo w g b → TellsPartOf w g b text → RepliesToPart w g text
