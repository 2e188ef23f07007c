-- What an event does to a core with hands: the answer, and what becomes of notes, untried goals and counts; and whole plays.
use Rattle.std.specs.Prelude.{◌≡◌, ◌⊎◌, List, [], ◌∷◌}
use Rattle.std.specs.FinSet as set
use Rattle.ghc_term.specs.declared.fault.Fault.{Fault}
use Rattle.ghc_hooks.specs.Notes.{AreLeft}
use Rattle.ghc_core.specs.Core.{Core, Stays}
use Rattle.ghc_core.specs.declared.changes.Change.{Change}
use Rattle.ghc_core.specs.Change.{CanChange, Changes, IsBoundBy}
use Rattle.ghc_core.specs.Events.{Event, propose, commit, note, command, Reply, refused}
use Rattle.ghc_core.specs.Answers.{Answers}
use Rattle.ghc_core.specs.Anyway.{IsRefusedAnyway}
use Rattle.ghc_core.specs.Settling.{IsNoted}
use Rattle.ghc_core.specs.Counting.{Counts, CountsProposal}
use Rattle.ghc_core.specs.Playing.{IsRefusal}
use Rattle.ghc_core.specs.declared.world.World.{World as Played}

-- The core moved by one change that could be made, and a note stays just where its goal is still there and did not look at what the steps of the change bind.
pub record Moves (old new : Core) : Type 0 where
  pub change : Change
  pub possible : CanChange old.world change
  pub changed : Changes old.world change new.world
  pub notes : AreLeft new.world.state.goals (IsBoundBy change) old.notes new.notes

-- What an event that is not refused does to notes and untried goals: a proposal leaves them, a commit and a command carry them over a change, and a note gives its goal the note.
abbrev pub CarriesNotes : Event → Core → Core → Type 0
CarriesNotes (propose h g choice) old new = Stays old new
CarriesNotes (commit h) old new = Moves old new
CarriesNotes (note g) old new = IsNoted old.world g old.notes new.notes × (new.untried ≡ set.remove old.untried g)
CarriesNotes (command c) old new = Moves old new

-- Meets old e reply new: the event e gets the reply, whether or not memory was refused. What is refused whatever memory is left gets that refusal. A refused event leaves world, notes and untried goals as they were.
pub record Meets (old : Played) (e : Event) (reply : Reply) (new : Played) : Type 0 where
  pub answer : Answers (Unit {0}) old.core.world old.hands e reply new.core.world new.hands
  pub anyway : (f : Fault) → IsRefusedAnyway old.core.world old.hands e f → reply ≡ refused f
  pub carries : IsRefusal reply ⊎ CarriesNotes e old.core new.core
  pub stays : IsRefusal reply → Stays old.core new.core
  pub counts : Counts old.core.world old.hands e old.core.meter new.core.meter
  pub proposals : CountsProposal old.hands e old.meter new.meter

-- The events are met one after another, each with its reply.
abbrev pub MeetsEach : Played → List Event → List Reply → Played → Type 0
MeetsEach old [] [] new = new ≡ old
MeetsEach old (e ∷ es) (r ∷ rs) new = (mid : Played) × Meets old e r mid × MeetsEach mid es rs new
MeetsEach old [] (_ ∷ _) new = ⊥
MeetsEach old (_ ∷ _) [] new = ⊥
