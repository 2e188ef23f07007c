use Rattle.ghc_shared.proofs.Words.{Hands, no_hands, subst, sym, refl, note, command, command_of, Answers, Fault, no_memory, noted_answers, note_refused_anyway, refused, reply_of}
use Rattle.std.proofs.Common.{inl}
use Rattle.ghc_core.specs.World.{World}
use Rattle.ghc_shared.proofs.Answering.{no_commit_told, made_as_proposed, not_obeyed}
use Rattle.ghc_shared.proofs.telling.refuse_to.Goals as goal

pub returns-in-Submit-clause-made : goal.returns-in-Submit-clause-made
returns-in-Submit-clause-made c =
    let told = c.prepare.ensures in
    rw c.in-Submit.is (no_commit_told _ c.args.core.now c.in-Submit.proposal c.prepare.result c.tell_no_commit.result c.prepare.new.self c.tell_no_commit.ensures told.answer told.gone told.stays told.counted)

pub returns-in-SubmitProposed-clause-made : goal.returns-in-SubmitProposed-clause-made
returns-in-SubmitProposed-clause-made c =
    let told = c.prepare-in-SubmitProposed.ensures in
    rw c.in-SubmitProposed.is (made_as_proposed _ _ _ _ (no_commit_told _ c.args.core.now c.in-SubmitProposed.proposal c.prepare-in-SubmitProposed.result c.tell_no_commit-in-SubmitProposed.result c.prepare-in-SubmitProposed.new.self c.tell_no_commit-in-SubmitProposed.ensures told.answer told.gone told.stays told.counted))

pub returns-in-Note-clause-made : goal.returns-in-Note-clause-made
returns-in-Note-clause-made c =
    let w = c.args.core.now.world in
    let noted = c.reply_to_note.ensures in
    rw c.in-Note.is (record {
      answer = (no_hands, subst (λ u. Answers (Unit {0}) w no_hands (note c.in-Note.goal) (reply_of c.reply_to_note.result) u no_hands) (sym noted.world) (noted_answers no_hands noted.answer));
      anyway = λ f fails. note_refused_anyway w c.in-Note.goal f (reply_of c.reply_to_note.result) noted.no_goal fails;
      does = record { carries = noted.noted; stays = noted.stays; counts = noted.counted };
    })

pub returns-in-Ok-clause-made : goal.returns-in-Ok-clause-made
returns-in-Ok-clause-made c =
    let w = c.args.core.now.world in
    let found = c.in-Ok.ensures in
    rw c.in-Command.is (record {
      answer = subst (λ (u : World). (left : Hands) × Answers (Unit {0}) w no_hands (command (command_of c.in-Command.command)) (refused Fault.Memory) u left) (sym found.stays.world) (no_hands, no_memory tt);
      anyway = λ f fails. let said = found.anyway f fails in cc;
      does = record { carries = inl (Fault.Memory, refl); stays = λ _. found.stays; counts = found.counted };
    })

pub returns-in-Err-clause-made : goal.returns-in-Err-clause-made
returns-in-Err-clause-made c =
    let w = c.args.core.now.world in
    let told = c.in-Err.ensures in
    rw c.in-Command.is (record {
      answer = (no_hands, subst (λ (u : World). Answers (Unit {0}) w no_hands (command (command_of c.in-Command.command)) (refused c.in-Err.refusal) u no_hands) (sym told.stays.world) (not_obeyed w c.in-Command.command c.in-Err.refusal told.answer.1));
      anyway = λ f fails. let said = told.anyway f fails in cc;
      does = record { carries = inl (c.in-Err.refusal, refl); stays = λ _. told.stays; counts = told.counted };
    })
