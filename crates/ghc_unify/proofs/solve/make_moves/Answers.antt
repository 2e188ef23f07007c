use Rattle.ghc_unify.proofs.Words.{◌≡◌, ap, reverse, Err, Clash, Cycle, value_at, IsClash, IsCycle}
use Rattle.ghc_unify.proofs.Acyclic.{moves_acyclic}
use Rattle.ghc_unify.proofs.Refusals.{fault_is}
use Rattle.ghc_unify.proofs.Runs.{begins, stays, goes_on, ends, fails, falls_short}
use Rattle.ghc_unify.proofs.solve.make_moves.Goals as goal

pub loop-equations-init : goal.loop-equations-init
loop-equations-init c =
    begins (value_at c.args.store.now.held) c.args.left.now c.args.right.now _ _ _ c.requires.unbound c.requires.unread (ap reverse c.in_ok-equations.ensures)

pub advance-requires : goal.advance-requires
advance-requires c = moves_acyclic c.loop-equations.invariant.moves c.requires.acyclic

pub returns-in_err-x-clause-clash : goal.returns-in_err-x-clause-clash
returns-in_err-x-clause-clash c e =
    let is : c.in_err-x.field-0.0 ≡ Clash = fault_is _ c.from_residual-in_err-x.ensures.1 e in
    fails c.loop-equations.invariant IsClash (c.in_err-x.ensures.clash (ap Err is))

pub returns-in_err-x-clause-cycle : goal.returns-in_err-x-clause-cycle
returns-in_err-x-clause-cycle c e =
    let is : c.in_err-x.field-0.0 ≡ Cycle = fault_is _ c.from_residual-in_err-x.ensures.1 e in
    fails c.loop-equations.invariant IsCycle (c.in_err-x.ensures.cycle (ap Err is))

pub loop-equations-smaller : goal.loop-equations-smaller
loop-equations-smaller c =
    let next = goes_on c.loop-equations.invariant (rw c.in-Some.is at c.in_ok-x.ensures.ok) c.in_ok-insert.ensures.ok in
    falls_short c.args.store.now.held c.loop-equations.solved.binds c.in-Some.x c.in-Some.value next c.in_ok-insert.ensures.ok

pub loop-equations-preserved : goal.loop-equations-preserved
loop-equations-preserved c = (goes_on c.loop-equations.invariant (rw c.in-Some.is at c.in_ok-x.ensures.ok) c.in_ok-insert.ensures.ok).0

pub returns-clause-solved : goal.returns-clause-solved
returns-clause-solved c = ends (stays c.loop-equations.invariant (rw c.in_default.is at c.in_ok-x.ensures.ok))
