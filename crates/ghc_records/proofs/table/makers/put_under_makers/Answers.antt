use Rattle.ghc_records.proofs.Words.{subst, take_all, held_before, IsMakerOf}
use Rattle.ghc_records.proofs.Giving.{HasUnder, under_none, under_next, this_one}
use Rattle.ghc_records.proofs.table.makers.put_under_makers.Goals as goal

pub loop-x-init : goal.loop-x-init
loop-x-init c = (under_none (IsMakerOf (held_before c.args.before c.args.slots.now.held)) c.args.users.now c.args.user, λ m h. h)

pub put_at-requires : goal.put_at-requires
put_at-requires c m e =
    c.loop-x.invariant.1 m (c.requires m (this_one (IsMakerOf (held_before c.args.before c.args.slots.now.held)) c.args.xs.now c.loop-x.x-index _ c.loop-x-test.true c.maker_of.result c.maker_of.ensures m e))

pub loop-x-preserved : goal.loop-x-preserved
loop-x-preserved c = (
  under_next (IsMakerOf (held_before c.args.before c.args.slots.now.held)) c.args.xs.now c.loop-x.x-index _ c.loop-x-test.true c.maker_of.result c.maker_of.ensures c.args.users.now c.loop-x.users c.put_at.new.self c.args.user
      c.loop-x.invariant.0 c.put_at.ensures.users,
  λ m h. c.put_at.ensures.room m (c.loop-x.invariant.1 m h),
)

pub returns : goal.returns
returns c = subst (λ xs. HasUnder (IsMakerOf (held_before c.args.before c.args.slots.now.held)) c.args.users.now xs c.args.user c.loop-x.users) (take_all c.loop-x.x-index c.args.xs.now c.loop-x-test.false) c.loop-x.invariant.0
