use Rattle.ghc_trace.proofs.Words.{sym, subst}
use Rattle.ghc_trace.specs.inner.BlameCode.{StandBelow}
use Rattle.ghc_trace.proofs.tops.top_of.Goals as goal

pub top-requires : goal.top-requires
top-requires c = let below = c.in_ok-last.ensures.below in subst (λ n. StandBelow n c.in_ok-last.last) (sym below.long) below

pub returns : goal.returns
returns c P query rs t target replay are judged =
    c.top.ensures rs t target c.args.answers.now c.args.calls.now.list.items (c.in_ok-last.ensures.last P query rs t target replay are judged)
