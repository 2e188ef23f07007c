use Rattle.ghc_core.proofs.Words.{◌≡◌, true, false, sym, ◌∙◌, subst, take_all, each_next, IsPredicateOf, ArePredicatesOf}
use Rattle.ghc_core.proofs.ResumeSteps.{lacks_here}
use Rattle.ghc_core.proofs.saved.resume.first_unknown.Goals as goal

pub returns-then-not-is_defined-clause-some : goal.returns-then-not-is_defined-clause-some
returns-then-not-is_defined-clause-some c =
    lacks_here c.args.program.now c.args.spies.now c.loop-index.index c.index-spies-index.result c.loop-index-test.true c.index-spies-index.is c.loop-index.invariant
    (λ has. let clash : true ≡ false = sym (c.is_defined.ensures.1 has) ∙ c.if-not-is_defined.true in cc)

pub loop-index-preserved : goal.loop-index-preserved
loop-index-preserved c =
    each_next (IsPredicateOf c.args.program.now) c.args.spies.now c.loop-index.index c.index-spies-index.result c.loop-index-test.true c.loop-index.invariant
    (subst (IsPredicateOf c.args.program.now) c.index-spies-index.is (c.is_defined.ensures.0 c.if-not-is_defined.false))

pub returns-clause-none : goal.returns-clause-none
returns-clause-none c = subst (ArePredicatesOf c.args.program.now) (take_all c.loop-index.index c.args.spies.now c.loop-index-test.false) c.loop-index.invariant
