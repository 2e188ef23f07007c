use Rattle.ghc_hooks.proofs.Words.{refl}
use Rattle.ghc_hooks.proofs.Unblocking.{failed_sorted, same_kept}
use Rattle.ghc_hooks.proofs.unblocked.Unblocked.sort_failed.Goals as goal

pub returns-in_err-insert-clause-are : goal.returns-in_err-insert-clause-are
returns-in_err-insert-clause-are c notes f are noted =
    let u = c.args.self.now in
    same_kept notes u (record { unsorted = u.unsorted; ready = u.ready; failed = c.insert.new.goals }) are refl refl c.in_err-insert.ensures.err

pub returns-clause-are : goal.returns-clause-are
returns-clause-are c notes f are noted =
    let u = c.args.self.now in
    failed_sorted notes u (record { unsorted = c.remove.new.self; ready = u.ready; failed = c.insert.new.goals }) are c.args.goal c.remove.ensures.held c.in_ok-insert.ensures.ok refl f noted
