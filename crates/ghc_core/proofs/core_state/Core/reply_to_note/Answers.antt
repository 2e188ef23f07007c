use Rattle.ghc_core.proofs.Words.{sym, ap, ◌∙◌, status_of, Notes}
use Rattle.ghc_core.proofs.Replying.{note_refused, note_told_so, note_failure}
use Rattle.ghc_core.proofs.core_state.Core.reply_to_note.Goals as goal

pub returns-in-Err-clause-answer : goal.returns-in-Err-clause-answer
returns-in-Err-clause-answer c = note_refused c.args.self.now.world c.args.goal c.in-Err.fault c.in-Err.ensures.answer.1

pub verdict_again-requires : goal.verdict_again-requires
verdict_again-requires c f e = note_failure c.args.self.now.world c.args.goal c.in-Ok.note c.in-Ok.ensures.answer.0 f (c.verdict.ensures ∙ e)

pub returns-in-Err-verdict_again-clause-answer : goal.returns-in-Err-verdict_again-clause-answer
returns-in-Err-verdict_again-clause-answer c = Notes.no_memory tt

pub returns-in-Ok-enter-clause-answer : goal.returns-in-Ok-enter-clause-answer
returns-in-Ok-enter-clause-answer c =
    note_told_so c.args.self.now.world c.args.goal c.in-Ok.note (status_of c.in-Ok-verdict_again.verdict) c.in-Ok.ensures.answer.0 (ap status_of c.in-Ok-verdict_again.ensures ∙ sym c.verdict.ensures)

pub returns-in-Err-enter-clause-answer : goal.returns-in-Err-enter-clause-answer
returns-in-Err-enter-clause-answer c = Notes.no_memory tt
