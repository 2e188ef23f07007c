use Rattle.ghc_term.proofs.Words.{◌≡◌, ◌<◌, true, false, arith, all_left_nodes}
use Rattle.ghc_term.proofs.Alike.{goes_on, gets_fewer, stops}
use Rattle.ghc_term.proofs.equality.are_alike_within.Goals as goal

pub returns-then-not-branch : goal.returns-then-not-branch
returns-then-not-branch c = (
  λ h. absurd (let clash : false ≡ true = h in cc),
  λ a. absurd (stops c.in-Some.pair _ _ c.in-Some.ensures.items (c.in_ok-compare.ensures.no c.if-not-branch.true) (c.loop.invariant.alike.1 a)),
)

pub loop-preserved : goal.loop-preserved
loop-preserved c =
    let more = c.in_ok-compare.ensures.yes c.if-not-branch.false in
    let step = goes_on c.in-Some.pair _ _ _ c.in-Some.ensures.items more in
    let less : all_left_nodes c.compare.new.waiting.items < all_left_nodes c.loop.waiting.items = gets_fewer c.in-Some.pair _ _ _ c.in-Some.ensures.items more in
    record {
      alike = (λ l. c.loop.invariant.alike.0 (step.0 l), λ l. step.1 (c.loop.invariant.alike.1 l));
      fewer = omega (arith, less, c.loop.invariant.fewer);
    }
