use Rattle.ghc_hooks.proofs.Unblocking.{none_unblocked}
use Rattle.ghc_hooks.proofs.unblocked.Unblocked.new.Goals as goal

pub returns : goal.returns
returns c = none_unblocked (record { unsorted = c.new.result; ready = c.new-2.result; failed = c.new-3.result }) c.new.ensures c.new-2.ensures.empty c.new-3.ensures.empty
