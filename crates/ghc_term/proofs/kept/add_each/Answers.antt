use Rattle.ghc_term.proofs.Words.{subst, In}
use Rattle.ghc_term.specs.inner.KeptList.{Gathers}
use Rattle.ghc_term.proofs.Gathered.{next_gathered}
use Rattle.std.proofs.lemmas.List.{take_all as whole}
use Rattle.ghc_term.proofs.kept.add_each.Goals as goal

pub loop-x-preserved : goal.loop-x-preserved
loop-x-preserved c = next_gathered c.args.list.now c.loop-x.x-index (record { step = 0; place = 0 }) c.args.into.now c.loop-x.into c.add_one.new.into c.loop-x-test.true c.loop-x.invariant c.in_ok-add_one.ensures

pub returns : goal.returns
returns c = subst (λ l. Gathers (λ y. In y l) c.args.into.now c.loop-x.into) (whole c.loop-x.x-index c.args.list.now c.loop-x-test.false) c.loop-x.invariant
