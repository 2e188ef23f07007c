use Rattle.ghc_shared.proofs.Words.{no_hands, subst, sym, note, Answers, noted_answers, note_refused_anyway, obeyed_answers, reply_of}
use Rattle.ghc_shared.proofs.Answering.{commit_told, made_as_proposed, proposed_there}
use Rattle.ghc_shared.proofs.telling.reply_to.Goals as goal

pub returns-in-Submit : goal.returns-in-Submit
returns-in-Submit c =
    let told = c.commit.ensures in
    rw c.in-Submit.is (commit_told c.args.core.now c.in-Submit.proposal c.commit.result c.tell_commit.result c.commit.new.self c.tell_commit.ensures
    (record { answer = told.answer; gone = told.gone; stays = told.stays; counted = told.counted; notes = told.notes }))

pub commit_proposed-requires : goal.commit_proposed-requires
commit_proposed-requires c = proposed_there c.args.core.now.world c.in-SubmitProposed.proposal (rw c.in-SubmitProposed.is at c.requires)

pub returns-in-SubmitProposed : goal.returns-in-SubmitProposed
returns-in-SubmitProposed c =
    let told = c.commit_proposed.ensures in
    rw c.in-SubmitProposed.is (made_as_proposed _ _ _ _ (commit_told c.args.core.now c.in-SubmitProposed.proposal c.commit_proposed.result c.tell_commit-in-SubmitProposed.result c.commit_proposed.new.self c.tell_commit-in-SubmitProposed.ensures
    (record { answer = told.answer; gone = told.gone; stays = told.stays; counted = told.counted; notes = told.notes })))

pub returns-in-Note : goal.returns-in-Note
returns-in-Note c =
    let w = c.args.core.now.world in
    let noted = c.reply_to_note.ensures in
    rw c.in-Note.is (record {
      answer = (no_hands, subst (λ u. Answers (Unit {0}) w no_hands (note c.in-Note.goal) (reply_of c.reply_to_note.result) u no_hands) (sym noted.world) (noted_answers no_hands noted.answer));
      anyway = λ f fails. note_refused_anyway w c.in-Note.goal f (reply_of c.reply_to_note.result) noted.no_goal fails;
      does = record { carries = noted.noted; stays = noted.stays; counts = noted.counted };
    })

pub returns-in-Command : goal.returns-in-Command
returns-in-Command c =
    let obeyed = c.obey.ensures in
    rw c.in-Command.is (record {
      answer = (no_hands, obeyed_answers no_hands obeyed.answer);
      anyway = obeyed.anyway;
      does = record { carries = obeyed.moves; stays = obeyed.stays; counts = obeyed.counted };
    })
