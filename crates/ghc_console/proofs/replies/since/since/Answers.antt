use Rattle.ghc_console.proofs.CitedWords.{◌++◌, ◌∙◌, List, sym, ap, subst, arith, drop, string_bytes, Record, held_in, rank, IsNotKept, record_lines}
use Rattle.ghc_console.specs.Looks.{RepliesToSince, since_no_step}
use Rattle.ghc_console.proofs.LookReplies.{since_told}
use Rattle.ghc_console.proofs.RecordLines.{slot_on}
use Rattle.ghc_console.proofs.StepReplies.{if_ok}
use Rattle.ghc_console.proofs.replies.since.since.Goals as goal

pub returns-in_default : goal.returns-in_default
returns-in_default c = if_ok c.refused.result c.refused.ensures.text c.refused.ensures.memory (λ _ told kept.
    let w = c.args.core.now.world in
    subst (RepliesToSince w c.args.number) (sym told) (since_no_step (subst (λ (l : List Record). IsNotKept l c.args.number) c.records-records.ensures c.in_default.ensures.none)))

pub loop-place-init : goal.loop-place-init
loop-place-init c = let ss = c.records-records.result.now.slots in ap (λ l. l ++ record_lines (drop (rank ss c.in-Some.first) (held_in ss))) c.requires

pub loop-place-preserved : goal.loop-place-preserved
loop-place-preserved c =
    let ss = c.records-records.result.now.slots in
    slot_on ss c.loop-place.place (string_bytes c.loop-place.reply) (string_bytes c.line.new.reply) (record_lines (drop (rank ss c.in-Some.first) (held_in ss))) c.in_ok-line.ensures c.loop-place.invariant

pub returns : goal.returns
returns c =
    since_told c.args.core.now.world c.args.number c.records-records.result.now.slots c.in-Some.first c.loop-place.place (string_bytes c.loop-place.reply) (sym c.records-records.ensures ∙ c.len-count.ensures.slots) c.in-Some.ensures.found
    (omega (arith, c.loop-place-test.false, c.places-place-end.ensures)) c.loop-place.invariant
