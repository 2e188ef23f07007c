use Rattle.ghc_core.proofs.Words.{ap, inl, inr, Err, all_gone, undone, to_roll, does}
use Rattle.ghc_core.proofs.core_state.Core.rollback.Goals as goal

pub returns-in-Err-clause-fault : goal.returns-in-Err-clause-fault
returns-in-Err-clause-fault c = elim (rw c.index_records.ensures at c.in-Err.ensures.fault) [ inl memory ↦ inl memory.0 | inr other ↦ inr other ]

pub returns-in-Err-clause-refused : goal.returns-in-Err-clause-refused
returns-in-Err-clause-refused c none = elim (rw c.index_records.ensures at c.in-Err.ensures.fault) [
  | inl memory ↦ absurd (none memory.1.0 memory.1.1.0 memory.1.1.1)
  | inr other ↦ ap Err other.0
]

pub returns-in_err-ns-clause-refused : goal.returns-in_err-ns-clause-refused
returns-in_err-ns-clause-refused c none = let found = rw c.index_records.ensures at c.in-Ok.ensures.found in absurd (none c.in-Ok.rollback.first found.0 c.in-Ok.ensures.step)

pub returns-in_err-make-clause-refused : goal.returns-in_err-make-clause-refused
returns-in_err-make-clause-refused c none = let found = rw c.index_records.ensures at c.in-Ok.ensures.found in absurd (none c.in-Ok.rollback.first found.0 c.in-Ok.ensures.step)

pub returns-clause-refused : goal.returns-clause-refused
returns-clause-refused c none = let found = rw c.index_records.ensures at c.in-Ok.ensures.found in absurd (none c.in-Ok.rollback.first found.0 c.in-Ok.ensures.step)

pub returns-clause-ok : goal.returns-clause-ok
returns-clause-ok c = does (to_roll c.in-Ok.ensures.step) (rw c.index_records.ensures at c.in-Ok.ensures.found) (rw c.index_records.ensures at c.in_ok-make.ensures.changed) (ap undone c.in_ok-ns.ensures)

pub returns-clause-notes : goal.returns-clause-notes
returns-clause-notes c =
    let found = rw c.index_records.ensures at c.in-Ok.ensures.found in
    (c.in-Ok.rollback.first, all_gone c.in-Ok.rollback, found.1.0, (found.0, c.in-Ok.ensures.step), found.1.1, rw c.index_records.ensures at c.in_ok-make.ensures.notes)
