use Rattle.ghc_records.proofs.Words.{take_all}
use Rattle.ghc_records.proofs.Giving.{IsBinderOf, found_so, not_under_none, not_under_next}
use Rattle.ghc_records.proofs.table.use_index.take_from_under.Goals as goal

pub loop-x-init : goal.loop-x-init
loop-x-init c = not_under_none (IsBinderOf c.args.binders.now.held) c.args.users.now c.args.user

pub loop-x-preserved : goal.loop-x-preserved
loop-x-preserved c =
    not_under_next (IsBinderOf c.args.binders.now.held) c.args.xs.now c.loop-x.x-index _ c.loop-x-test.true c.get.result (found_so c.get.ensures)
    c.args.users.now c.loop-x.users c.take_at.new.self c.args.user c.loop-x.invariant c.take_at.ensures

pub returns : goal.returns
returns c = rw (take_all c.loop-x.x-index c.args.xs.now c.loop-x-test.false) at c.loop-x.invariant
