-- Laws of what ghcdb tells of goals.
use Rattle.std.specs.Prelude.{List, ◌++◌, map}
use Rattle.std.specs.FinSet as set
use Rattle.ghc_term.specs.declared.goal_name.GoalName.{GoalName}
use Rattle.ghc_records.specs.Record.{Record}
use Rattle.ghc_records.specs.Replay.{MakesGoal}
use Rattle.ghc_depend.specs.Depend.{Binds}
use Rattle.ghc_depend.specs.Deletion.{IsConsumedIn}
use Rattle.ghc_hooks.specs.Notes.{NotesByGoal, AreLeft}
use Rattle.ghc_core.specs.World.{World}
use Rattle.ghc_core.specs.Core.{IsStanding, AreExactIn}
use Rattle.ghc_core.specs.declared.changes.Change.{Change}
use Rattle.ghc_core.specs.declared.changes.Change.TheVariants.{Comes as comes, Goes as goes, Reorders as reorders}
use Rattle.ghc_core.specs.Gone.{all_gone}
use Rattle.ghc_core.specs.Change.{CanChange, Changes, IsBoundBy}
use Rattle.ghc_core.specs.Settling.{AreKept}
use Rattle.ghc_trace.specs.Ports.{resumed, taken_ports, ArePorts}
use Rattle.ghc_trace.specs.News.{Standing, AreNews}
use Rattle.ghc_trace.specs.Disturbed.{Disturbed, AreDisturbed, AreResumedBy, AreStuckOtherwise}

-- The world stands, each note is what a trial from scratch says there, and no goal is untried.
pub record IsSettled (w : World) (notes : NotesByGoal) : Type 0 where
  pub standing : IsStanding w
  pub exact : AreExactIn w notes set.empty

-- The change brings the goal named g: the step that comes makes it, or a step that goes consumed it; another order brings none.
abbrev pub Brings : Change → GoalName → Type 0
Brings (comes from r) g = MakesGoal r g
Brings (goes how gone) g = IsConsumedIn (all_gone gone) g
Brings (reorders a) g = ⊥

-- Where no goal is untried, those that by their notes waited for what a step binds are those that it resumes.
abbrev pub NotesTellPorts : Type 0
NotesTellPorts =
    (w : World) (r : Record) (notes : NotesByGoal) (d : Disturbed) (names : List GoalName) → IsSettled w notes
    → AreDisturbed notes (Binds r) (MakesGoal r) d → AreResumedBy r d names → ArePorts w r (taken_ports r ++ map resumed names)

-- Where no goal is untried before a change, nor when the goals were tried that the change left untried, those that are stuck otherwise by their notes are the news.
abbrev pub NotesTellNews : Type 0
NotesTellNews =
    (w v : World) (change : Change) (old left new : NotesByGoal) (d : Disturbed) (news : List Standing) → IsSettled w old → CanChange w change → Changes w change v
    → AreLeft v.state.goals (IsBoundBy change) old left → AreKept left new → IsSettled v new
    → AreDisturbed old (IsBoundBy change) (Brings change) d → AreStuckOtherwise new d news → AreNews w v news
