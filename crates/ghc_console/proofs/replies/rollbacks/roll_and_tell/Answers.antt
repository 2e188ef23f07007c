use Rattle.ghc_console.proofs.CitedWords.{[], sym, subst, arith, string_bytes}
use Rattle.ghc_console.specs.inner.KeepingCode.{AddsSomeRollbacks}
use Rattle.ghc_console.proofs.StepReplies.{on_ok}
use Rattle.ghc_console.proofs.Keeping.{always_err, on_err, rolls_whole, told_all}
use Rattle.ghc_console.proofs.replies.rollbacks.roll_and_tell.Goals as goal

pub returns-in_err-roll_all-clause-some : goal.returns-in_err-roll_all-clause-some
returns-in_err-roll_all-clause-some c =
    always_err c.from_residual.result
    (subst (λ old. AddsSomeRollbacks c.args.core.now.world c.args.ns.now old (string_bytes c.roll_all.new.reply) c.roll_all.new.core.world) c.requires.empty c.in_err-roll_all.ensures.some)

pub returns-clause-all : goal.returns-clause-all
returns-clause-all c = on_ok c.tell_kept.result c.tell_kept.ensures.told (λ is.
    told_all c.args.core.now.world c.roll_all.new.core.world c.args.ns.now (string_bytes c.args.reply.now) (string_bytes c.roll_all.new.reply) (string_bytes c.tell_kept.new.reply) c.in_ok-roll_all.ensures.all c.requires.empty is)

pub returns-clause-some : goal.returns-clause-some
returns-clause-some c = on_err c.tell_kept.result c.tell_kept.ensures.text (λ is.
    let w = c.args.core.now.world in
    let v = c.roll_all.new.core.world in
    let ns = c.args.ns.now in
    let mid = string_bytes c.roll_all.new.reply in
    subst (λ t. AddsSomeRollbacks w ns [] t v) (sym is) (subst (λ old. AddsSomeRollbacks w ns old mid v) c.requires.empty (rolls_whole w v ns (string_bytes c.args.reply.now) mid c.in_ok-roll_all.ensures.all)))

pub returns-clause-room : goal.returns-clause-room
returns-clause-room c = on_err c.tell_kept.result c.tell_kept.ensures.len (λ len.
    let room = c.in_ok-roll_all.ensures.room in
    let more = c.tell_kept.ensures.capacity in
    omega (arith, len, room, more))
