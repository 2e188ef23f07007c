use Rattle.ghc_hooks.proofs.Words.{refl}
use Rattle.ghc_hooks.proofs.Unblocking.{ready_sorted, same_kept}
use Rattle.ghc_hooks.proofs.unblocked.Unblocked.sort_ready.Goals as goal

pub returns-in_err-insert-clause-are : goal.returns-in_err-insert-clause-are
returns-in_err-insert-clause-are c notes are noted =
    let u = c.args.self.now in
    same_kept notes u (record { unsorted = u.unsorted; ready = c.insert.new.goals; failed = u.failed }) are refl c.in_err-insert.ensures.err refl

pub returns-clause-are : goal.returns-clause-are
returns-clause-are c notes are noted =
    let u = c.args.self.now in
    ready_sorted notes u (record { unsorted = c.remove.new.self; ready = c.insert.new.goals; failed = u.failed }) are c.args.goal c.remove.ensures.held c.in_ok-insert.ensures.ok refl noted
