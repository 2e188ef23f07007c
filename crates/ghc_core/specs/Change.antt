-- Changes of a core: when each can be made, and where it leads.
use Rattle.std.specs.Prelude.{◌≡◌, ◌<◌, ◌≤◌, ℕ, List, [], ◌∷◌, ◌++◌, length, Some}
use Rattle.std.specs.FinMap as finite
use Rattle.ghc_term.specs.declared.var_name.VarName.{VarName}
use Rattle.ghc_term.specs.Lists.{In}
use Rattle.ghc_records.specs.Numbers.{kept_limit}
use Rattle.ghc_records.specs.Record.{State, Record, after, Fires}
use Rattle.ghc_records.specs.Journal.{Entry, undid, rolled, redid, reordered}
use Rattle.ghc_records.specs.State.{HasRoomToTake}
use Rattle.ghc_depend.specs.Depend.{Binds}
use Rattle.ghc_depend.specs.Deletion.{IsBoundIn}
use Rattle.ghc_depend.specs.Kept.{with_shelved, IsSplitAt}
use Rattle.ghc_depend.specs.Lawful.{IsLawful, IsInOrder}
use Rattle.ghc_core.specs.declared.changes.Change.{Change}
use Rattle.ghc_core.specs.declared.changes.Change.TheVariants.{Comes as comes, Goes as goes, Reorders as reorders}
use Rattle.ghc_core.specs.declared.changes.Coming.{Coming}
use Rattle.ghc_core.specs.declared.changes.Going.{Going}
use Rattle.ghc_core.specs.Gone.{all_gone}
use Rattle.ghc_core.specs.World.{World, IsReplay, IsKnown, IsNextStep, with_step}
use Rattle.ghc_core.specs.Room.{Room}

-- the world with a step more at the end of the record: a new one, or one from the shelf, under its old number
abbrev pub with_coming : Coming → Record → World → World
with_coming Coming.Next r w = with_step r w
with_coming Coming.Shelved r w = record w {
  state = after w.state r;
  kept = w.kept ++ r ∷ [];
  shelf = finite.remove w.shelf r.number;
  journal = w.journal ++ redid r.number ∷ [];
}

-- the world in which the steps gone were taken away, so that these are left, with this state
abbrev pub without_steps : List Record → List Record → State → Entry → World → World
without_steps gone left t entry w = record w { state = t; kept = left; shelf = with_shelved gone w.shelf; journal = w.journal ++ entry ∷ [] }

-- the world with its record put into this order
abbrev pub with_order : List ℕ → List Record → World → World
with_order order new w = record w { kept = new; journal = w.journal ++ reordered order ∷ [] }

-- Of the steps that go, others go with the first: where it is undone, none.
abbrev pub GoWithIt : Going → List Record → Type 0
GoWithIt Going.Alone others = others ≡ []
GoWithIt Going.Together others = Unit {0}

-- the entry of steps that go, of which this is the first
abbrev pub entry_of_going : Going → Record → Entry
entry_of_going Going.Alone r = undid r.number
entry_of_going Going.Together r = rolled r.number

-- The change can be made in the world: the step that comes is possible now, as the next step; or it is on the shelf and possible now, one more can be kept, and what it names is known; the steps that go are a kept step and its consequences, in recorded order, and one that is undone has none; the order into which the record is put is lawful.
abbrev pub CanChange : World → Change → Type 0
CanChange w (comes Coming.Next r) = IsNextStep w r
CanChange w (comes Coming.Shelved r) = (finite.get w.shelf r.number ≡ Some r) × Fires w.opening.program w.state r × (length w.kept < kept_limit) × IsKnown w r
CanChange w (goes how gone) = In gone.first w.kept × ((left : List Record) × IsSplitAt w.kept gone.first (all_gone gone) left) × GoWithIt how gone.others
CanChange w (reorders a) = IsLawful w.kept a.order × IsInOrder w.kept a.order a.records

-- In the world there is room for the change.
abbrev pub HasRoomFor : World → Room → Change → Type 0
HasRoomFor w room (comes from r) = HasRoomToTake room.state r × (0 < room.kept) × (0 < room.journal) × (length r.effect.makes ≤ room.tries)
HasRoomFor w room (goes how gone) = (length (all_gone gone) ≤ room.state.goals) × (length (all_gone gone) ≤ room.shelf) × (0 < room.journal) × (length (all_gone gone) ≤ room.tries)
HasRoomFor w room (reorders a) = 0 < room.journal

-- Of the kept steps these are left, and the state is their replay; the steps gone are on the shelf, and the journal has the entry.
abbrev pub AreTakenAway : World → List Record → List Record → Entry → World → Type 0
AreTakenAway w gone left entry v = (t : State) × IsReplay w left t × (v ≡ without_steps gone left t entry w)

-- Changes w change v: the change takes the world w to v. A step that comes is the last of the record; steps that go are put on the shelf, and the state is the replay of those left; another order leaves the state.
abbrev pub Changes : World → Change → World → Type 0
Changes w (comes from r) v = v ≡ with_coming from r w
Changes w (goes how gone) v = (left : List Record) × IsSplitAt w.kept gone.first (all_gone gone) left × AreTakenAway w (all_gone gone) left (entry_of_going how gone.first) v
Changes w (reorders a) v = v ≡ with_order a.order a.records w

-- A step of the change binds the variable; another order binds none.
abbrev pub IsBoundBy : Change → VarName → Type 0
IsBoundBy (comes from r) x = Binds r x
IsBoundBy (goes how gone) x = IsBoundIn (all_gone gone) x
IsBoundBy (reorders a) x = ⊥
