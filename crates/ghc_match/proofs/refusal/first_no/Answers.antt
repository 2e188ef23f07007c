use Rattle.ghc_match.proofs.Words.{arith, sym, ap, ◌∙◌, subst, Some, slice_get-get_or, slice_get_within, value_at, StandsAndEnds, IsSaid, No, IsNoAt}
use Rattle.ghc_match.proofs.Refusals.{one_test}
use Rattle.ghc_match.proofs.RefusalSearch.{none_more, not_no}
use Rattle.ghc_match.proofs.refusal.first_no.Goals as goal

pub loop-number-preserved : goal.loop-number-preserved
loop-number-preserved c =
    let E = StandsAndEnds c.args.stands.now (value_at c.args.store.now.held) in
    let gs = c.args.tests.now in
    let i = c.loop-number.number in
    let g = c.index-tests-number.result in
    let at = slice_get-get_or gs i g c.loop-number-test.true ∙ ap Some (sym c.index-tests-number.is) in
    none_more (IsNoAt E gs) i c.loop-number.invariant (λ n.
    not_no E g c.in_ok-try_test.field-0 c.in_ok-try_test.ensures.says c.in_default.not-No (subst (λ f. IsSaid E f No) (one_test gs i n.1 at) n.2))

pub returns : goal.returns
returns c i n = let within = slice_get_within c.args.tests.now i n.0 n.1 in c.loop-number.invariant i (omega (arith, within, c.loop-number-test.false)) n
