use Rattle.ghc_records.proofs.Words.{take_all}
use Rattle.ghc_records.proofs.Giving.{IsBinderOf, found_so, under_none, under_next, this_one}
use Rattle.ghc_records.proofs.table.use_index.put_under.Goals as goal

pub loop-x-init : goal.loop-x-init
loop-x-init c = (under_none (IsBinderOf c.args.binders.now.held) c.args.users.now c.args.user, λ m h. h)

pub put_at-requires : goal.put_at-requires
put_at-requires c m e =
    let given = this_one (IsBinderOf c.args.binders.now.held) c.args.xs.now c.loop-x.x-index _ c.loop-x-test.true c.get.result (found_so c.get.ensures) m e in
    c.loop-x.invariant.1 m (c.requires m given)

pub loop-x-preserved : goal.loop-x-preserved
loop-x-preserved c = (
  under_next (IsBinderOf c.args.binders.now.held) c.args.xs.now c.loop-x.x-index _ c.loop-x-test.true c.get.result (found_so c.get.ensures)
      c.args.users.now c.loop-x.users c.put_at.new.self c.args.user c.loop-x.invariant.0 c.put_at.ensures.users,
  λ m h. c.put_at.ensures.room m (c.loop-x.invariant.1 m h),
)

pub returns-clause-users : goal.returns-clause-users
returns-clause-users c = rw (take_all c.loop-x.x-index c.args.xs.now c.loop-x-test.false) at c.loop-x.invariant.0
