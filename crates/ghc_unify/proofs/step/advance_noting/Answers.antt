use Rattle.ghc_unify.proofs.Words.{merged, merged_is}
use Rattle.ghc_unify.proofs.Advancing.{quiet, next, gets_lighter}
use Rattle.ghc_unify.proofs.ByPairs.{still_paired, dropped}
use Rattle.ghc_unify.proofs.step.advance_noting.Goals as goal

pub loop-left-init : goal.loop-left-init
loop-left-init c = record { quiet = quiet; met = λ p i. absurd (rw c.requires.none at i) }

pub loop-left-preserved-then-branch : goal.loop-left-preserved-then-branch
loop-left-preserved-then-branch c =
    let met = c.in_ok-are_solved.ensures in
    dropped c.pop.new.self.items c.loop-left.invariant c.in-Some.ensures.items met.noted c.requires.acyclic (met.again c.if-branch.true)

pub returns-in-Some-2-clause-ok : goal.returns-in-Some-2-clause-ok
returns-in-Some-2-clause-ok c = next c.pop.new.self.items c.loop-left.invariant.quiet c.in-Some.ensures.items (rw c.in-Some-2.is at c.in_ok-binding.ensures.ok)

pub loop-left-smaller : goal.loop-left-smaller
loop-left-smaller c =
    let binds = c.args.binds.now in
    let s = c.args.store.now.held in
    gets_lighter c.pop.new.self.items c.loop-left.invariant.quiet c.in-Some.ensures.items (merged binds s) (merged_is binds s) c.requires.acyclic
    (rw c.in_default-2.is at c.in_ok-binding.ensures.ok)

pub loop-left-preserved : goal.loop-left-preserved
loop-left-preserved c = still_paired c.pop.new.self.items c.loop-left.invariant c.in-Some.ensures.items c.in_ok-are_solved.ensures.noted (rw c.in_default-2.is at c.in_ok-binding.ensures.ok)
