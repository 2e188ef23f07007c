use Rattle.ghc_match.proofs.Words.{◌≡◌, false, true, sym, ◌∙◌, value_at, spelled}
use Rattle.ghc_match.proofs.EndsLemmas.{stands_ends_once}
use Rattle.ghc_match.proofs.SmallLemmas.{gains_both, wants_none, compared_of}
use Rattle.ghc_match.proofs.small.compare_small.Goals as goal

pub returns-in_default-clause-wanted : goal.returns-in_default-clause-wanted
returns-in_default-clause-wanted c = gains_both _ _ _ _ _ _ c.in_ok-first.ensures.wanted c.in_ok-second.ensures.wanted

pub returns-in_default-clause-looked : goal.returns-in_default-clause-looked
returns-in_default-clause-looked c = gains_both _ _ _ _ _ _ c.in_ok-first.ensures.looked c.in_ok-second.ensures.looked

pub returns-in_default-second-clause-wanted : goal.returns-in_default-second-clause-wanted
returns-in_default-second-clause-wanted c = gains_both _ _ _ _ _ _ c.in_ok-first.ensures.wanted c.in_ok-second.ensures.wanted

pub returns-in_default-second-clause-looked : goal.returns-in_default-second-clause-looked
returns-in_default-second-clause-looked c = gains_both _ _ _ _ _ _ c.in_ok-first.ensures.looked c.in_ok-second.ensures.looked

pub returns-then-compares_to-clause-wanted : goal.returns-then-compares_to-clause-wanted
returns-then-compares_to-clause-wanted c = gains_both _ _ _ _ _ _ c.in_ok-first.ensures.wanted c.in_ok-second.ensures.wanted

pub returns-then-compares_to-clause-looked : goal.returns-then-compares_to-clause-looked
returns-then-compares_to-clause-looked c = gains_both _ _ _ _ _ _ c.in_ok-first.ensures.looked c.in_ok-second.ensures.looked

pub returns-clause-wanted : goal.returns-clause-wanted
returns-clause-wanted c = gains_both _ _ _ _ _ _ c.in_ok-first.ensures.wanted c.in_ok-second.ensures.wanted

pub returns-clause-looked : goal.returns-clause-looked
returns-clause-looked c = gains_both _ _ _ _ _ _ c.in_ok-first.ensures.looked c.in_ok-second.ensures.looked

pub returns-then-compares_to-clause-says : goal.returns-then-compares_to-clause-says
returns-then-compares_to-clause-says c =
    let once = stands_ends_once c.args.stands.now (value_at c.args.store.now.held) in
    let first = rw c.in-Worth.is at c.in_ok-first.ensures.asked in
    let second = rw c.in-Worth-second.is at c.in_ok-second.ensures.asked in
    let holds = compared_of once c.args.comparison (spelled c.args.left) (spelled c.args.right) c.in-Worth.x c.in-Worth-second.y first.1 second.1 in
    (wants_none once _ _ first.0 second.0, holds.0 (c.compares_to.ensures.0 c.if-compares_to.true))

pub returns-clause-says : goal.returns-clause-says
returns-clause-says c =
    let once = stands_ends_once c.args.stands.now (value_at c.args.store.now.held) in
    let first = rw c.in-Worth.is at c.in_ok-first.ensures.asked in
    let second = rw c.in-Worth-second.is at c.in_ok-second.ensures.asked in
    let holds = compared_of once c.args.comparison (spelled c.args.left) (spelled c.args.right) c.in-Worth.x c.in-Worth-second.y first.1 second.1 in
    (wants_none once _ _ first.0 second.0, λ h. let clash : false ≡ true = sym c.if-compares_to.false ∙ c.compares_to.ensures.1 (holds.1 h) in cc)
