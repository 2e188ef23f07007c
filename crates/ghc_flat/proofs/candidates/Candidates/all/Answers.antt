use Rattle.ghc_flat.proofs.Merged.{merged_nothing}
use Rattle.ghc_flat.proofs.candidates.Candidates.all.Goals as goal

pub returns : goal.returns
returns c = merged_nothing c.args.numbers.now
