-- What is known of a core after a change, before its goals were tried again.
use Rattle.ghc_hooks.specs.Notes.{NotesByGoal, AreLeft}
use Rattle.ghc_core.specs.World.{World}
use Rattle.ghc_core.specs.declared.changes.Change.{Change}
use Rattle.ghc_core.specs.Change.{CanChange, Changes, IsBoundBy}
use Rattle.ghc_trace.specs.Disturbed.{Disturbed, AreDisturbed}
use Rattle.ghc_trace.specs.Laws.{IsSettled, Brings}

-- The change took the world w to the world v and disturbed these goals. By the notes no goal of w was untried; those left are the ones that it did not make void.
pub record IsJustChanged (w : World) (change : Change) (notes : NotesByGoal) (v : World) (left : NotesByGoal) (d : Disturbed) : Type 0 where
  pub settled : IsSettled w notes
  pub possible : CanChange w change
  pub changed : Changes w change v
  pub notes_left : AreLeft v.state.goals (IsBoundBy change) notes left
  pub disturbed : AreDisturbed notes (IsBoundBy change) (Brings change) d
