use Rattle.ghc_console.proofs.CitedWords.{subst, string_bytes, NotesByGoal, IsBoundBy, AreDisturbed, Brings}
use Rattle.ghc_console.proofs.StepReplies.{if_ok}
use Rattle.ghc_console.proofs.replies.obey_reply.tell_and_make.Goals as goal

pub push_change-requires-clause-disturbed : goal.push_change-requires-clause-disturbed
push_change-requires-clause-disturbed c = subst (λ (n : NotesByGoal). AreDisturbed n (IsBoundBy c.args.change) (Brings c.args.change) c.in_ok-disturbed.disturbed) c.tries.ensures.notes c.in_ok-disturbed.ensures

pub make-requires-clause-disturbed : goal.make-requires-clause-disturbed
make-requires-clause-disturbed c = subst (λ (n : NotesByGoal). AreDisturbed n (IsBoundBy c.args.change) (Brings c.args.change) c.in_ok-disturbed.disturbed) c.tries.ensures.notes c.in_ok-disturbed.ensures

pub returns-clause-told : goal.returns-clause-told
returns-clause-told c = if_ok c.make.result c.make.ensures.changed c.make.ensures.told (λ _ changed told. (string_bytes c.push_change.new.reply, c.in_ok-push_change.ensures, changed, told))
