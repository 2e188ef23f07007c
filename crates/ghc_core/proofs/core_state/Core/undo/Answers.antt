use Rattle.ghc_core.proofs.Words.{List, ◌∷◌, sym, ap, subst, inl, inr, Err, Record, numbers, AreLeft, IsBoundIn, undone, to_undo, does}
use Rattle.ghc_core.proofs.CertainRefusals.{undo_cannot_fail, one_undo_refusal}
use Rattle.ghc_core.proofs.core_state.Core.undo.Goals as goal

pub returns-in-Err-clause-fault : goal.returns-in-Err-clause-fault
returns-in-Err-clause-fault c = elim (rw c.index_records.ensures at c.in-Err.ensures.fault) [ inl memory ↦ inl memory.0 | inr other ↦ inr other ]

pub returns-in-Err-clause-refused : goal.returns-in-Err-clause-refused
returns-in-Err-clause-refused c f fails = elim (rw c.index_records.ensures at c.in-Err.ensures.fault) [
  | inl memory ↦ absurd (undo_cannot_fail c.args.self.now.world c.stands.ensures.standing memory.1.0 memory.1.1 memory.1.2 fails)
  | inr other ↦ ap Err (one_undo_refusal c.args.self.now.world c.stands.ensures.standing other fails)
]

pub returns-clause-refused : goal.returns-clause-refused
returns-clause-refused c f fails =
    let found = rw c.index_records.ensures at c.in-Ok.ensures.found in
    absurd (undo_cannot_fail c.args.self.now.world c.stands.ensures.standing c.in-Ok.rollback.first (found.0, c.in-Ok.ensures.step) (rw c.index_records.ensures at c.in-Ok.ensures.alone) fails)

pub returns-in_err-make-clause-refused : goal.returns-in_err-make-clause-refused
returns-in_err-make-clause-refused c f fails =
    let found = rw c.index_records.ensures at c.in-Ok.ensures.found in
    absurd (undo_cannot_fail c.args.self.now.world c.stands.ensures.standing c.in-Ok.rollback.first (found.0, c.in-Ok.ensures.step) (rw c.index_records.ensures at c.in-Ok.ensures.alone) fails)

pub returns-clause-ok : goal.returns-clause-ok
returns-clause-ok c =
    let found = c.in-Ok.ensures in
    does (to_undo found.step) (rw c.index_records.ensures at found.found) (rw c.index_records.ensures at c.in_ok-make.ensures.changed) (λ i. undone (sym found.step i ∷ numbers (sym found.found.2 i)))

pub returns-clause-notes : goal.returns-clause-notes
returns-clause-notes c =
    let r = c.in-Ok.rollback.first in
    let found = c.in-Ok.ensures in (
      r,
      ((rw c.index_records.ensures at found.found).0, found.step),
      subst (λ (others : List Record). AreLeft c.make.new.self.world.state.goals (IsBoundIn (r ∷ others)) c.args.self.now.notes c.make.new.self.notes) found.found.2 (rw c.index_records.ensures at c.in_ok-make.ensures.notes),
    )
