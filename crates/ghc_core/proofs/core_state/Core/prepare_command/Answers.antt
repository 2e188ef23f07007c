use Rattle.ghc_core.proofs.Words.{sym, ap, ◌∙◌, inl, inr, Result, Ok, Err, to_give, to_close, to_undo, to_roll, to_redo, to_arrange, to_ask, ◌≡◌}
use Rattle.ghc_core.proofs.Counted.{redo_counted}
use Rattle.ghc_core.proofs.CertainRefusals.{undo_cannot_fail, one_undo_refusal}
use Rattle.ghc_core.proofs.core_state.Core.prepare_command.Goals as goal

-- a fault is the same in place of another result, and where there is a result, there is none
alike : {A B E : Type 0} {e f : E} → ◌≡◌ {A = Result A E} (Err e) (Err f) → ◌≡◌ {A = Result B E} (Err e) (Err f)
alike p = cc

never : {A B E : Type 0} {a : A} {f : E} → ◌≡◌ {A = Result A E} (Ok a) (Err f) → B
never p = cc

pub returns-in-Ok-clause-answer : goal.returns-in-Ok-clause-answer
returns-in-Ok-clause-answer c = rw c.in-Input.is ((to_give c.in-Ok.ensures.answer.0.0, c.in-Ok.ensures.answer.0.1), tt)

pub returns-in-Ok-prepare_close-clause-answer : goal.returns-in-Ok-prepare_close-clause-answer
returns-in-Ok-prepare_close-clause-answer c = let found = c.in-Ok-prepare_close.ensures.answer.0 in rw c.in-Close.is ((to_close found.0, found.1), tt)

pub returns-in-Ok-prepare_ask-clause-answer : goal.returns-in-Ok-prepare_ask-clause-answer
returns-in-Ok-prepare_ask-clause-answer c = rw c.in-Ask.is ((to_ask c.in-Ok-prepare_ask.ensures.answer.0.0, c.in-Ok-prepare_ask.ensures.answer.0.1), tt)

pub returns-in-Ok-prepare_ask-clause-anyway : goal.returns-in-Ok-prepare_ask-clause-anyway
returns-in-Ok-prepare_ask-clause-anyway c = rw c.in-Ask.is (λ f fails. never (c.in-Ok-prepare_ask.ensures.anyway f fails))

pub returns-in-Err-prepare_ask-clause-anyway : goal.returns-in-Err-prepare_ask-clause-anyway
returns-in-Err-prepare_ask-clause-anyway c = rw c.in-Ask.is (λ f fails. alike (c.in-Err-prepare_ask.ensures.anyway f fails))

pub returns-in-Ok-prepare_undo-clause-answer : goal.returns-in-Ok-prepare_undo-clause-answer
returns-in-Ok-prepare_undo-clause-answer c = rw c.in-Undo.is ((to_undo c.in-Ok-prepare_undo.ensures.step, rw c.index_records.ensures at c.in-Ok-prepare_undo.ensures.found), tt)

pub returns-in-Ok-prepare_undo-clause-anyway : goal.returns-in-Ok-prepare_undo-clause-anyway
returns-in-Ok-prepare_undo-clause-anyway c =
    let step = c.in-Ok-prepare_undo.ensures.step in
    let found = rw c.index_records.ensures at c.in-Ok-prepare_undo.ensures.found in
    let alone = rw c.index_records.ensures at c.in-Ok-prepare_undo.ensures.alone in
    rw c.in-Undo.is (λ f fails. absurd (undo_cannot_fail _ c.stands.ensures.standing _ (found.0, step) alone fails))

pub returns-in-Err-prepare_undo-clause-anyway : goal.returns-in-Err-prepare_undo-clause-anyway
returns-in-Err-prepare_undo-clause-anyway c = rw c.in-Undo.is (λ f why. elim (rw c.index_records.ensures at c.in-Err-prepare_undo.ensures.fault) [
  | inl memory ↦ absurd (undo_cannot_fail _ c.stands.ensures.standing memory.1.0 memory.1.1 memory.1.2 why)
  | inr other ↦ ap Err (one_undo_refusal _ c.stands.ensures.standing other why)
])

pub returns-in-Err-prepare_undo-clause-answer : goal.returns-in-Err-prepare_undo-clause-answer
returns-in-Err-prepare_undo-clause-answer c = rw c.in-Undo.is (tt, elim (rw c.index_records.ensures at c.in-Err-prepare_undo.ensures.fault) [ inl memory ↦ inl memory.0 | inr other ↦ inr other ])

pub returns-in-Ok-prepare_rollback-clause-answer : goal.returns-in-Ok-prepare_rollback-clause-answer
returns-in-Ok-prepare_rollback-clause-answer c = rw c.in-Roll.is ((to_roll c.in-Ok-prepare_rollback.ensures.step, rw c.index_records-in-Roll.ensures at c.in-Ok-prepare_rollback.ensures.found), tt)

pub returns-in-Ok-prepare_rollback-clause-anyway : goal.returns-in-Ok-prepare_rollback-clause-anyway
returns-in-Ok-prepare_rollback-clause-anyway c =
    let found = rw c.index_records-in-Roll.ensures at c.in-Ok-prepare_rollback.ensures.found in
    rw c.in-Roll.is (λ f why. absurd (why.1 c.in-Ok-prepare_rollback.rollback.first found.0 c.in-Ok-prepare_rollback.ensures.step))

pub returns-in-Err-prepare_rollback-clause-anyway : goal.returns-in-Err-prepare_rollback-clause-anyway
returns-in-Err-prepare_rollback-clause-anyway c = rw c.in-Roll.is (λ f why. elim (rw c.index_records-in-Roll.ensures at c.in-Err-prepare_rollback.ensures.fault) [
  | inl memory ↦ absurd (why.1 memory.1.0 memory.1.1.0 memory.1.1.1)
  | inr none ↦ ap Err (none.0 ∙ sym why.0)
])

pub returns-in-Err-prepare_rollback-clause-answer : goal.returns-in-Err-prepare_rollback-clause-answer
returns-in-Err-prepare_rollback-clause-answer c = rw c.in-Roll.is (tt, elim (rw c.index_records-in-Roll.ensures at c.in-Err-prepare_rollback.ensures.fault) [ inl memory ↦ inl memory.0 | inr other ↦ inr other ])

pub returns-in-Ok-prepare_redo-clause-answer : goal.returns-in-Ok-prepare_redo-clause-answer
returns-in-Ok-prepare_redo-clause-answer c = rw c.in-Redo.is ((to_redo c.in-Ok-prepare_redo.ensures.step, c.in-Ok-prepare_redo.ensures.found), tt)

pub returns-in-Ok-prepare_arrange-clause-answer : goal.returns-in-Ok-prepare_arrange-clause-answer
returns-in-Ok-prepare_arrange-clause-answer c =
    let found = c.in-Ok-prepare_arrange.ensures in
    rw c.in-Arrange.is ((to_arrange (found.order ∙ c.as_slice.ensures), rw c.index_records-in-Arrange.ensures at found.found), tt)

pub returns-in-Ok-clause-anyway : goal.returns-in-Ok-clause-anyway
returns-in-Ok-clause-anyway c = rw c.in-Input.is (λ f fails. never (c.in-Ok.ensures.anyway f fails))

pub returns-in-Err-clause-anyway : goal.returns-in-Err-clause-anyway
returns-in-Err-clause-anyway c = rw c.in-Input.is (λ f fails. alike (c.in-Err.ensures.anyway f fails))

pub returns-in-Ok-prepare_close-clause-anyway : goal.returns-in-Ok-prepare_close-clause-anyway
returns-in-Ok-prepare_close-clause-anyway c = rw c.in-Close.is (λ f fails. never (c.in-Ok-prepare_close.ensures.anyway f fails))

pub returns-in-Err-prepare_close-clause-anyway : goal.returns-in-Err-prepare_close-clause-anyway
returns-in-Err-prepare_close-clause-anyway c = rw c.in-Close.is (λ f fails. alike (c.in-Err-prepare_close.ensures.anyway f fails))

pub returns-in-Err-prepare_redo-clause-counted : goal.returns-in-Err-prepare_redo-clause-counted
returns-in-Err-prepare_redo-clause-counted c =
    let told = c.in-Err-prepare_redo.ensures in
    rw c.in-Redo.is (redo_counted _ _ _ _ (λ f. (told.not_shelved f).1) (λ f. (told.no_goal f).1) (λ f. (told.no_variable f).1) told.fired)

pub returns-in-Ok-prepare_redo-clause-counted : goal.returns-in-Ok-prepare_redo-clause-counted
returns-in-Ok-prepare_redo-clause-counted c =
    let told = c.in-Ok-prepare_redo.ensures in
    rw c.in-Redo.is (redo_counted _ _ _ _ (λ f. (told.not_shelved f).1) (λ f. (told.no_goal f).1) (λ f. (told.no_variable f).1) told.fired)

pub returns-in-Err-prepare_redo-clause-anyway : goal.returns-in-Err-prepare_redo-clause-anyway
returns-in-Err-prepare_redo-clause-anyway c =
    let told = c.in-Err-prepare_redo.ensures in
    rw c.in-Redo.is (λ f fails. elim fails [
      | inl (e, q) ↦ alike (told.not_shelved q).0 ∙ ap Err (sym e)
      | inr (inl (e, q)) ↦ alike (told.no_goal q).0 ∙ ap Err (sym e)
      | inr (inr (e, q)) ↦ alike (told.no_variable q).0 ∙ ap Err (sym e)
    ])

pub returns-in-Ok-prepare_redo-clause-fired : goal.returns-in-Ok-prepare_redo-clause-fired
returns-in-Ok-prepare_redo-clause-fired c =
    let told = c.in-Ok-prepare_redo.ensures in
    rw c.in-Redo.is (told.fired (λ f. never (told.not_shelved f).0) (λ f. never (told.no_goal f).0) (λ f. never (told.no_variable f).0))
