use Rattle.ghc_match.proofs.Words.{[], ◌∷◌, value_at, all_ahead}
use Rattle.ghc_match.proofs.WalkedPositions.{head_parts}
use Rattle.ghc_match.proofs.MatchHead.{HeadSoFar}
use Rattle.ghc_match.proofs.refusal.visit_all.Given as goal

abbrev pub invariant-loop-part : goal.invariant-loop-part
invariant-loop-part l = HeadSoFar (value_at l.store.held) (l.head ∷ []) (l.term ∷ []) l.met.clashes l.met.stands l.met.wanted l.met.looked (all_ahead l.here l.pending.items)

abbrev pub decreases-loop-part : goal.decreases-loop-part
decreases-loop-part l = head_parts (all_ahead l.here l.pending.items)
