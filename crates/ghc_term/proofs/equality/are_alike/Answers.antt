use Rattle.ghc_term.proofs.Words.{◌≡◌, ◌<◌, true, false, all_left_nodes}
use Rattle.ghc_term.proofs.Alike.{goes_on, gets_fewer, stops}
use Rattle.ghc_term.proofs.equality.are_alike.Goals as goal

pub returns-then-not-branch : goal.returns-then-not-branch
returns-then-not-branch c = (
  λ h. absurd (let clash : false ≡ true = h in cc),
  λ a. absurd (stops c.in-Some.pair _ _ c.in-Some.ensures.items (c.in_ok-compare.ensures.no c.if-not-branch.true) (c.loop-pair.invariant.1 a)),
)

pub loop-pair-smaller : goal.loop-pair-smaller
loop-pair-smaller c =
    let less : all_left_nodes c.compare.new.waiting.items < all_left_nodes c.loop-pair.waiting.items =
    gets_fewer c.in-Some.pair _ _ _ c.in-Some.ensures.items (c.in_ok-compare.ensures.yes c.if-not-branch.false) in
    less

pub loop-pair-preserved : goal.loop-pair-preserved
loop-pair-preserved c =
    let step = goes_on c.in-Some.pair _ _ _ c.in-Some.ensures.items (c.in_ok-compare.ensures.yes c.if-not-branch.false) in
    (λ l. c.loop-pair.invariant.0 (step.0 l), λ l. step.1 (c.loop-pair.invariant.1 l))
