-- What a change does to notes, where nothing but counts moved before it.
use Rattle.ghc_shared.proofs.Words.{◌⊎◌, ◌∙◌, subst, inl, inr, Core}
use Rattle.ghc_hooks.specs.Notes.{AreLeft}
use Rattle.ghc_core.specs.Change.{CanChange, Changes, IsBoundBy}
use Rattle.ghc_core.specs.Core.{Stays}
use Rattle.ghc_core.specs.Meets.{Moves}

pub moves_after : (old mid new : Core) → Stays old mid → Moves mid new → Moves old new
moves_after old mid new s m = record {
  change = m.change;
  possible = subst (λ w. CanChange w m.change) s.world m.possible;
  changed = subst (λ w. Changes w m.change new.world) s.world m.changed;
  notes = subst (λ n. AreLeft new.world.state.goals (IsBoundBy m.change) n new.notes) s.notes m.notes;
}

pub moves_still : {A : Type 0} (old mid new : Core) → Stays old mid → A ⊎ Moves mid new → A ⊎ Moves old new
moves_still old mid new s (inl a) = inl a
moves_still old mid new s (inr m) = inr (moves_after old mid new s m)

pub stays_after : (old mid new : Core) → Stays old mid → Stays mid new → Stays old new
stays_after old mid new s t = record { world = t.world ∙ s.world; notes = t.notes ∙ s.notes; untried = t.untried ∙ s.untried }
