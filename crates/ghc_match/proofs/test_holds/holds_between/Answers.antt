use Rattle.ghc_match.proofs.Words.{rules, subst, to_z-of_z, value_at, Compares}
use mir.Val.{SFits}
use mir.Syntax.{w64}
use Rattle.ghc_match.proofs.EndsLemmas.{stands_ends_once}
use Rattle.ghc_match.proofs.Values.{number_once}
use Rattle.ghc_match.proofs.test_holds.holds_between.Goals as goal

pub returns : goal.returns
returns c =
    let once = stands_ends_once c.args.stands.now (value_at c.args.store.now.held) in
    let left = rw c.in-Some.is at c.in_ok-x.ensures in
    let right = rw c.in-Some-2.is at c.in_ok-y.ensures in
    let fits : SFits w64 c.in-Some.x = search rules in
    let fits' : SFits w64 c.in-Some-2.y = search rules in
    let says = rw (to_z-of_z w64 c.in-Some.x fits, to_z-of_z w64 c.in-Some-2.y fits') at c.compares.ensures in (
      λ h. (c.in-Some.x, c.in-Some-2.y, left, right, says.0 h),
      λ w. says.1 (subst (λ j. Compares c.args.comparison j c.in-Some-2.y) (number_once once w.2 left) (subst (λ k. Compares c.args.comparison w.0 k) (number_once once w.3 right) w.4)),
    )
