use Rattle.ghc_depend.proofs.Turns.{run_alone}
use Rattle.ghc_depend.proofs.laws.parts_run_alone.Goals as goal

pub returns : goal.returns
returns c = run_alone
