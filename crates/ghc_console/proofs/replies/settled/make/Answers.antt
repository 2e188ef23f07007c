use Rattle.ghc_console.proofs.CitedWords.{subst, string_bytes, Settled}
use Rattle.ghc_console.proofs.replies.settled.make.Goals as goal

pub returns-clause-told : goal.returns-clause-told
returns-clause-told c =
    let w = c.args.core.now.world in
    subst (λ front. Settled w c.tell_stuck.new.core.world front (string_bytes c.tell_stuck.new.reply)) c.reserve.ensures.bytes
    (c.tell_stuck.ensures.told w c.args.change c.args.core.now.notes (record {
      settled = c.requires.settled;
      possible = c.requires.found;
      changed = c.in_ok-make.ensures.changed;
      notes_left = c.in_ok-make.ensures.notes;
      disturbed = c.requires.disturbed;
    }))
