use Rattle.ghc_depend.proofs.Words.{arith, MakesVariable}
use Rattle.ghc_depend.proofs.Sourcing.{also_other}
use Rattle.ghc_depend.proofs.sources.place_of_other_maker.Goals as goal

pub returns : goal.returns
returns c = also_other c.args.records.now.slots (λ a. MakesVariable a c.args.x) (λ e. omega (arith, e, c.if-x-number.false, c.number.ensures)) c.place_of_maker.result c.place_of_maker.ensures
