use Rattle.ghc_core.proofs.Words.{refl, ap, inr, Core, reply_of}
use Rattle.ghc_core.proofs.CertainRefusals.{note_refused_anyway}
use Rattle.ghc_core.proofs.Playable.{core_stays, left_so}
use Rattle.ghc_core.proofs.Moving.{obeyed_answers, noted_answers}
use Rattle.ghc_core.proofs.world.World.answer.Goals as goal

pub returns-in-Propose-clause-met : goal.returns-in-Propose-clause-met
returns-in-Propose-clause-met c =
    let stays = core_stays c.args.self.now.core c.propose.new.self.core c.propose.ensures.core in
    rw c.in-Propose.is (record {
      answer = left_so c.propose.new.self.core.world c.propose.ensures.answer stays.world;
      anyway = c.propose.ensures.anyway;
      carries = inr stays;
      stays = λ _. stays;
      counts = ap (λ (x : Core). x.meter) c.propose.ensures.core;
      proposals = c.propose.ensures.counted;
    })

pub returns-in-Commit-clause-met : goal.returns-in-Commit-clause-met
returns-in-Commit-clause-met c = rw c.in-Commit.is (record {
  answer = c.commit.ensures.answer;
  anyway = c.commit.ensures.anyway;
  carries = c.commit.ensures.moves;
  stays = c.commit.ensures.stays;
  counts = c.commit.ensures.counted;
  proposals = c.commit.ensures.meter;
})

pub returns-in-Note-clause-met : goal.returns-in-Note-clause-met
returns-in-Note-clause-met c =
    let old = c.args.self.now in
    rw c.in-Note.is (record {
      answer = left_so c.reply_to_note.new.self.world (noted_answers old.hands c.reply_to_note.ensures.answer) c.reply_to_note.ensures.world;
      anyway = λ f. note_refused_anyway old.core.world c.in-Note.goal f (reply_of c.reply_to_note.result) c.reply_to_note.ensures.no_goal;
      carries = c.reply_to_note.ensures.noted;
      stays = c.reply_to_note.ensures.stays;
      counts = c.reply_to_note.ensures.counted;
      proposals = refl;
    })

pub returns-in-Command-clause-met : goal.returns-in-Command-clause-met
returns-in-Command-clause-met c = rw c.in-Command.is (record {
  answer = obeyed_answers c.args.self.now.hands c.obey.ensures.answer;
  anyway = c.obey.ensures.anyway;
  carries = c.obey.ensures.moves;
  stays = c.obey.ensures.stays;
  counts = c.obey.ensures.counted;
  proposals = refl;
})
