use Rattle.ghc_pool.proofs.Failures.{met_further}
use Rattle.ghc_pool.proofs.runs.drain.take_one.Goals as goal

pub returns-in-Passed : goal.returns-in-Passed
returns-in-Passed c =
    let old = c.args.core.now in
    let core = c.among_listed.new.core in
    let new = c.among_untried.new.core in
    met_further c.args.spies.now c.args.root old.world core.world new.world old.notes core.notes new.notes c.among_untried.result c.in-Passed.ensures c.among_untried.ensures
