use Rattle.ghc_term.proofs.Words.{map, refl, subst, Occurs}
use Rattle.ghc_term.specs.inner.Walking.{StandsIn}
use Rattle.ghc_term.specs.inner.KeptList.{Gathers}
use Rattle.ghc_term.proofs.Gathered.{next_stood, none_added}
use Rattle.std.proofs.lemmas.List.{take_all as whole}
use Rattle.ghc_term.proofs.gathering.add_variables_of_all.Goals as goal

pub loop-term-init : goal.loop-term-init
loop-term-init c = none_added c.args.into.now c.args.into.now refl (λ y s. absurd s.1)

pub loop-term-preserved : goal.loop-term-preserved
loop-term-preserved c =
    next_stood c.args.terms.now c.loop-term.term-index c.term-item.result c.args.into.now c.loop-term.into c.add_variables.new.into c.loop-term-test.true c.loop-term.invariant
    (subst (λ b. Gathers (λ y. Occurs y b.now) c.loop-term.into c.add_variables.new.into) c.term-item.is c.in_ok-add_variables.ensures)

pub returns : goal.returns
returns c = subst (λ l. Gathers (λ y. StandsIn y (map (λ t. t.now) l)) c.args.into.now c.loop-term.into) (whole c.loop-term.term-index c.args.terms.now c.loop-term-test.false) c.loop-term.invariant
