use Rattle.ghc_term.proofs.Pieces.{left_three}
use Rattle.ghc_term.proofs.printing.pieces.push_sides.Goals as goal

pub returns : goal.returns
returns c r w = left_three r w _ _ _ _ _ _ _ _ c.in_ok-push.ensures.items c.in_ok-push-2.ensures.items c.in_ok-push-3.ensures.items
