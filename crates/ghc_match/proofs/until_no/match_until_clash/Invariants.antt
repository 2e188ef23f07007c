use Rattle.ghc_match.proofs.Words.{value_at, all_ahead}
use Rattle.ghc_match.proofs.WalkedPositions.{head_parts}
use Rattle.ghc_match.proofs.MatchHead.{HeadSoFar}
use Rattle.ghc_match.proofs.until_no.match_until_clash.Given as goal

abbrev pub invariant-loop-head : goal.invariant-loop-head
invariant-loop-head l = HeadSoFar (value_at l.store.held) l.clause.head l.arguments l.met.clashes l.met.stands l.met.wanted l.met.looked (all_ahead l.here l.pending.items)

abbrev pub decreases-loop-head : goal.decreases-loop-head
decreases-loop-head l = head_parts (all_ahead l.here l.pending.items)
