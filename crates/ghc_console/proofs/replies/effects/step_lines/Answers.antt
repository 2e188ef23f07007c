use Rattle.ghc_console.proofs.CitedWords.{◌++◌, ℕ, List, Option, IfSome, subst, arith, get_or, string_bytes, In, AreDistinct, Record, numbers, held_in, record_lines}
use Rattle.ghc_term.proofs.ListsLemmas.{in_get}
use Rattle.ghc_records.specs.inner.Slots.{HasNumberIn}
use Rattle.ghc_core.proofs.RolledBack.{found_there}
use Rattle.ghc_console.proofs.EffectReplies.{number_on, numbers_end}
use Rattle.ghc_console.proofs.replies.effects.step_lines.Goals as goal

pub unwrap-place-requires : goal.unwrap-place-requires
unwrap-place-requires c =
    found_there c.place_of.result c.args.records.now.held _ (c.requires _ (in_get c.args.ns.now c.loop-number.number-index 0 c.loop-number-test.true)) c.place_of.ensures.none

pub loop-number-preserved : goal.loop-number-preserved
loop-number-preserved c = λ steps kept are.
    let ss = c.args.records.now.slots in
    let ns = c.args.ns.now in
    let i = c.loop-number.number-index in
    let held = c.len-count.ensures.slots in
    let distinct : AreDistinct (numbers (held_in ss)) = subst (λ (rs : List Record). AreDistinct (numbers rs)) held c.len-count.ensures.distinct in
    let among : (r : Record) → In r steps → In r (held_in ss) = λ r j. subst (In r) held (kept r j) in
    let at : HasNumberIn ss c.unwrap-place.result (get_or ns i 0) = subst (λ (o : Option ℕ). IfSome o (λ p. HasNumberIn ss p (get_or ns i 0))) c.unwrap-place.ensures c.place_of.ensures.found in
    number_on ss steps ns i c.unwrap-place.result (string_bytes c.loop-number.reply) (string_bytes c.line.new.reply) (string_bytes c.args.reply.now ++ record_lines steps) distinct among are c.loop-number-test.true at c.in_ok-line.ensures
    (c.loop-number.invariant steps kept are)

pub returns : goal.returns
returns c = λ steps kept are.
    numbers_end steps c.args.ns.now c.loop-number.number-index (string_bytes c.loop-number.reply) (string_bytes c.args.reply.now ++ record_lines steps) are (omega (arith, c.loop-number-test.false)) (c.loop-number.invariant steps kept are)
