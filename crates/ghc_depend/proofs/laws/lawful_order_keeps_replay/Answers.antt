use Rattle.ghc_depend.proofs.Arranging.{arranged}
use Rattle.ghc_depend.proofs.laws.lawful_order_keeps_replay.Goals as goal

pub returns : goal.returns
returns c = arranged
