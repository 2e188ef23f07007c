use Rattle.std.proofs.Common.{◌∙◌, inl, inr}
use Rattle.ghc_match.proofs.Ahead.{one_less, none_less}
use Rattle.ghc_match.proofs.places.Places.take_last.Goals as goal
use Rattle.ghc_match.proofs.places.Places.take_last.Goals.{else-self-via-then-self+else-self-2, else-self-via-else-self}

pub returns-then-self-2 : goal.returns-then-self-2
returns-then-self-2 c =
    let p = c.loop-self.self in
    c.loop-self.invariant ∙ one_less p.heads.now p.terms.now p.left _ _ c.loop-self-test.true c.if-self.true c.if-self-2.true

pub loop-self-preserved : goal.loop-self-preserved
loop-self-preserved c =
    let p = c.loop-self.self in
    c.loop-self.invariant ∙ none_less p.heads.now p.terms.now p.left c.loop-self-test.true (elim c.else-self.branch [
      | else-self-via-then-self+else-self-2 w ↦ inr w.if-self-2.false
      | else-self-via-else-self w ↦ inl w.if-self.false
    ])
