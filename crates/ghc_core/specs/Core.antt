-- What a core is.
use Rattle.std.specs.Prelude.{◌≡◌, ℕ, List, Option, Some, None}
use Rattle.ghc_term.specs.declared.goal_name.GoalName.{GoalName}
use Rattle.ghc_fire.specs.declared.act.Act.{Act}
use Rattle.ghc_fire.specs.declared.act.Act.TheVariants.{ByClause as by_clause, Unified as unified, Assigned as assigned, Given as given, Closed as closed, Asked as asked}
use Rattle.ghc_fire.specs.Proposal.{Proposal, under}
use Rattle.ghc_fire.specs.declared.meter.Meter.{Meter}
use Rattle.ghc_records.specs.Record.{Record}
use Rattle.ghc_hooks.specs.Face.{Face, GoalNames, IsFace}
use Rattle.ghc_hooks.specs.Notes.{NotesByGoal, AreExact}
use Rattle.ghc_hooks.specs.NotedFace.{IsNotedFace}
use Rattle.ghc_core.specs.World.{World, with_step}
use Rattle.ghc_core.specs.Room.{Room}
use Rattle.ghc_core.specs.Proposes.{IsCommitOf}
use Rattle.ghc_core.specs.Reached.{Reaches}
use Rattle.ghc_core.specs.inner.StreamGoals.{TellStreams}

-- A core is the world that it is in, the noted outcomes of its goals, the goals that are untried, the counts of what it fired and tried, and its room, which no other clause speaks of.
pub record Core : Type 0 where
  pub world : World
  pub notes : NotesByGoal
  pub untried : GoalNames
  pub meter : Meter
  pub room : Room

-- The world, the notes and the untried goals are as they were.
pub record Stays (old new : Core) : Type 0 where
  pub world : new.world ≡ old.world
  pub notes : new.notes ≡ old.notes
  pub untried : new.untried ≡ old.untried

-- The world is one that a core can be in: changes lead to it.
abbrev pub IsStanding : World → Type 0
IsStanding = Reaches

-- In the world, each noted outcome is the one from scratch, and the untried goals are those without a note.
abbrev pub AreExactIn : World → NotesByGoal → GoalNames → Type 0
AreExactIn w notes untried = AreExact w.opening.program w.state.goals w.state.store notes untried

-- The face shows the state of the world, found from scratch.
abbrev pub IsFaceOf : World → Face → Type 0
IsFaceOf w = IsFace w.opening.program w.state.goals w.state.store

-- The face shows the state of the world as the notes have it.
abbrev pub IsNotedFaceOf : World → NotesByGoal → Face → Type 0
IsNotedFaceOf w = IsNotedFace w.opening.program w.state.goals w.state.store

-- What holds in each core: its world is one that a core can be in, its notes and untried goals are exact there, and the names tell where its stream goals are.
pub record IsConsistent (w : World) (notes : NotesByGoal) (untried : GoalNames) (names : List GoalName) : Type 0 where
  pub standing : IsStanding w
  pub exact : AreExactIn w notes untried
  pub streams : TellStreams w.opening.query w.state.goals names

-- A commit of the proposal in the world w takes step n, which leaves the world v.
abbrev pub IsCommitted : World → Proposal → World → ℕ → Type 0
IsCommitted w p v n = (r : Record) × IsCommitOf w p r × (n ≡ w.next) × (v ≡ with_step r w)

-- The clause with which an attempt has to be made for it to propose this act.
abbrev pub choice_of : Act → Option ℕ
choice_of (by_clause k) = Some k
choice_of unified = None
choice_of assigned = None
choice_of (given u) = None
choice_of closed = None
choice_of (asked gs) = None

-- the record of the proposal as step n, where its effect is as step n has it
abbrev pub record_as : ℕ → Proposal → Record
record_as n p = record { number = n; goal = Some p.goal; consumed = Some p.consumed; act = p.act; effect = p.effect }

-- the record of the proposal as the next step of the world
abbrev pub next_record : World → Proposal → Record
next_record w p = record { number = w.next; goal = Some p.goal; consumed = Some p.consumed; act = p.act; effect = under w.next p.effect }
