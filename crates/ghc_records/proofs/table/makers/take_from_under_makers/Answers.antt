use Rattle.ghc_records.proofs.Words.{subst, take_all, held_before, IsMakerOf}
use Rattle.ghc_records.proofs.Giving.{HasNotUnder, not_under_none, not_under_next}
use Rattle.ghc_records.proofs.table.makers.take_from_under_makers.Goals as goal

pub loop-x-init : goal.loop-x-init
loop-x-init c = not_under_none (IsMakerOf (held_before c.args.before c.args.slots.now.held)) c.args.users.now c.args.user

pub loop-x-preserved : goal.loop-x-preserved
loop-x-preserved c =
    not_under_next (IsMakerOf (held_before c.args.before c.args.slots.now.held)) c.args.xs.now c.loop-x.x-index _ c.loop-x-test.true c.maker_of.result c.maker_of.ensures c.args.users.now c.loop-x.users c.take_at.new.self c.args.user
    c.loop-x.invariant c.take_at.ensures

pub returns : goal.returns
returns c = subst (λ xs. HasNotUnder (IsMakerOf (held_before c.args.before c.args.slots.now.held)) c.args.users.now xs c.args.user c.loop-x.users) (take_all c.loop-x.x-index c.args.xs.now c.loop-x-test.false) c.loop-x.invariant
