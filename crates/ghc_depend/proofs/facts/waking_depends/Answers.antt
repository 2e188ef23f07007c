use Rattle.ghc_depend.proofs.Waking.{waking}
use Rattle.ghc_depend.proofs.facts.waking_depends.Goals as goal

pub returns : goal.returns
returns c = waking
