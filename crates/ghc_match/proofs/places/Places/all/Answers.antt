use Rattle.ghc_match.proofs.Ahead.{zip_all}
use Rattle.ghc_match.proofs.places.Places.all.Goals as goal

pub returns : goal.returns
returns c = zip_all c.args.heads.now c.args.terms.now
