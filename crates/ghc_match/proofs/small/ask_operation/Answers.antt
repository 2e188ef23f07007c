use Rattle.ghc_match.proofs.Words.{leaf, value_at}
use Rattle.ghc_match.proofs.EndsLemmas.{stands_ends_once}
use Rattle.ghc_match.proofs.SmallLemmas.{gains_both, wants_none, operated_of}
use Rattle.ghc_match.proofs.small.ask_operation.Goals as goal

pub returns-in_default-clause-wanted : goal.returns-in_default-clause-wanted
returns-in_default-clause-wanted c = gains_both _ _ _ _ _ _ c.in_ok-first.ensures.wanted c.in_ok-second.ensures.wanted

pub returns-in_default-clause-looked : goal.returns-in_default-clause-looked
returns-in_default-clause-looked c = gains_both _ _ _ _ _ _ c.in_ok-first.ensures.looked c.in_ok-second.ensures.looked

pub returns-in_default-second-clause-wanted : goal.returns-in_default-second-clause-wanted
returns-in_default-second-clause-wanted c = gains_both _ _ _ _ _ _ c.in_ok-first.ensures.wanted c.in_ok-second.ensures.wanted

pub returns-in_default-second-clause-looked : goal.returns-in_default-second-clause-looked
returns-in_default-second-clause-looked c = gains_both _ _ _ _ _ _ c.in_ok-first.ensures.looked c.in_ok-second.ensures.looked

pub returns-clause-asked : goal.returns-clause-asked
returns-clause-asked c =
    let once = stands_ends_once c.args.stands.now (value_at c.args.store.now.held) in
    let first = rw c.in-Worth.is at c.in_ok-first.ensures.asked in
    let second = rw c.in-Worth-second.is at c.in_ok-second.ensures.asked in (
      wants_none once _ _ first.0 second.0,
      operated_of once c.args.operator (leaf c.args.left.now) (leaf c.args.right.now) c.in-Worth.x c.in-Worth-second.y _ first.1 second.1 c.apply_to.ensures,
    )
