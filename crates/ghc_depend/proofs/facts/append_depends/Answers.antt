use Rattle.ghc_depend.proofs.Append.{depends}
use Rattle.ghc_depend.proofs.facts.append_depends.Goals as goal

pub returns : goal.returns
returns c = depends
