use Rattle.ghc_hooks.proofs.Words.{sym}
use Rattle.ghc_hooks.proofs.NotedFaces.{through}
use Rattle.ghc_hooks.proofs.Unblocking.{all_ready, all_failed, in_keys}
use Rattle.ghc_hooks.proofs.tries.Tries.sorted.Goals as goal

pub returns-then-is_empty-clause-ready : goal.returns-then-is_empty-clause-ready
returns-then-is_empty-clause-ready c g =
    let t = c.self.inside in
    let all = all_ready t.notes.held t.unblocked c.self.invariant.1 (c.is_empty.ensures.0 c.if-is_empty.true) g in
    rw (sym c.self.view_is) (through (in_keys t.unblocked.ready g) all)

pub returns-then-is_empty-clause-failed : goal.returns-then-is_empty-clause-failed
returns-then-is_empty-clause-failed c g =
    let t = c.self.inside in
    let all = all_failed t.notes.held t.unblocked c.self.invariant.1 (c.is_empty.ensures.0 c.if-is_empty.true) g in
    rw (sym c.self.view_is) (through (in_keys t.unblocked.failed g) all)
