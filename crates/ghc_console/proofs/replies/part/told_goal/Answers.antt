use Rattle.ghc_console.proofs.CitedWords.{subst, sym, string_bytes}
use Rattle.ghc_console.specs.PartReplies.{TellsCallOrTooLong, TellsPartOf, tells_part}
use Rattle.ghc_console.proofs.PartReplying.{named_so}
use Rattle.ghc_console.proofs.StepReplies.{if_ok, on_ok}
use Rattle.ghc_console.proofs.replies.part.told_goal.Goals as goal

pub returns-in-Call : goal.returns-in-Call
returns-in-Call c = on_ok c.told_call.result c.told_call.ensures (λ told.
    let w = c.args.core.now.world in
    let g = c.args.name in
    let b = c.args.goal.now in
    let text = string_bytes c.told_call.new.reply in
    tells_part b (named_so w g b c.args.taker c.requires.taken c.requires.there) (subst (λ z. TellsPartOf w g z text) c.in-Call.ensures (subst (λ z. TellsCallOrTooLong w g z text) (sym c.in-Call.ensures) told)))

pub returns-in-Unify : goal.returns-in-Unify
returns-in-Unify c = if_ok c.refused.result c.refused.ensures.text c.refused.ensures.memory (λ _ told kept.
    let w = c.args.core.now.world in
    let g = c.args.name in
    let b = c.args.goal.now in
    tells_part b (named_so w g b c.args.taker c.requires.taken c.requires.there) (subst (λ z. TellsPartOf w g z (string_bytes c.refused.new.reply)) c.in-Unify.ensures told))

pub returns-in-Assign : goal.returns-in-Assign
returns-in-Assign c = if_ok c.refused-in-Assign.result c.refused-in-Assign.ensures.text c.refused-in-Assign.ensures.memory (λ _ told kept.
    let w = c.args.core.now.world in
    let g = c.args.name in
    let b = c.args.goal.now in
    tells_part b (named_so w g b c.args.taker c.requires.taken c.requires.there) (subst (λ z. TellsPartOf w g z (string_bytes c.refused-in-Assign.new.reply)) c.in-Assign.ensures told))

pub returns-in-Stream : goal.returns-in-Stream
returns-in-Stream c = if_ok c.refused-in-Stream.result c.refused-in-Stream.ensures.text c.refused-in-Stream.ensures.memory (λ _ told kept.
    let w = c.args.core.now.world in
    let g = c.args.name in
    let b = c.args.goal.now in
    tells_part b (named_so w g b c.args.taker c.requires.taken c.requires.there) (subst (λ z. TellsPartOf w g z (string_bytes c.refused-in-Stream.new.reply)) c.in-Stream.ensures told))
