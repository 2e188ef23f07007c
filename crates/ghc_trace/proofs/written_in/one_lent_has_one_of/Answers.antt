use Rattle.ghc_trace.proofs.Words.{Bor, Tree, arith}
use Rattle.ghc_trace.specs.inner.WhyNotCode.{HasOneOf}
use Rattle.ghc_trace.proofs.WrittenIn.{fails, holds, none_here, none_next, none_yet, of_lent, one_here}
use Rattle.ghc_trace.proofs.written_in.one_lent_has_one_of.Goals as goal

pub loop-term-init : goal.loop-term-init
loop-term-init c = none_yet (λ (t : Bor Tree). HasOneOf c.args.xs.now t.now)

pub loop-term-preserved : goal.loop-term-preserved
loop-term-preserved c =
    none_next (λ (t : Bor Tree). HasOneOf c.args.xs.now t.now) c.args.terms.now c.loop-term.term-index c.term-item.result c.loop-term-test.true c.term-item.is
    (fails c.in_ok-has.has c.if-has.false c.in_ok-has.ensures) c.loop-term.invariant

pub returns-then-has : goal.returns-then-has
returns-then-has c =
    of_lent c.args.xs.now c.args.terms.now _ (one_here (λ (t : Bor Tree). HasOneOf c.args.xs.now t.now) c.args.terms.now c.loop-term.term-index c.term-item.result c.loop-term-test.true c.term-item.is
    (holds c.in_ok-has.has c.if-has.true c.in_ok-has.ensures))

pub returns : goal.returns
returns c = of_lent c.args.xs.now c.args.terms.now _ (none_here (λ (t : Bor Tree). HasOneOf c.args.xs.now t.now) c.args.terms.now c.loop-term.term-index (omega (arith, c.loop-term-test.false)) c.loop-term.invariant)
