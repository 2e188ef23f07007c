use Rattle.std.proofs.Common.{◌≡◌, false, true, rules}
use Rattle.ghc_term.proofs.Trees.{closed_next, open_item}
use Rattle.ghc_term.proofs.term.are_closed.Goals as goal

pub returns-then-not-is_closed : goal.returns-then-not-is_closed
returns-then-not-is_closed c = (
  λ no. let clash : false ≡ true = no in cc,
  λ closed. let yes : c.is_closed.result ≡ true = c.is_closed.ensures.1 (open_item c.args.terms.now c.loop-term.term-index c.term-item.result c.loop-term-test.true c.term-item.is closed) in
      cc,
)

pub loop-term-preserved : goal.loop-term-preserved
loop-term-preserved c =
    closed_next c.args.terms.now c.loop-term.term-index c.term-item.result c.loop-term-test.true c.term-item.is c.loop-term.invariant (c.is_closed.ensures.0 (search rules))
