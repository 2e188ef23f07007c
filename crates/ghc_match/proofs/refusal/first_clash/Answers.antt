use Rattle.ghc_match.proofs.Words.{arith, ◌≡◌, length, true, false, refl, sym, ap, ◌∙◌, subst, Some, slice_get, slice_get-get_or, value_at, MismatchIn}
use Rattle.ghc_match.proofs.RefusalSearch.{clashes_there, distinct_in, none_more, within_both}
use Rattle.ghc_match.proofs.refusal.first_clash.Goals as goal

pub clash-requires : goal.clash-requires
clash-requires c =
    let i = c.loop-number.number in
    let h = c.index-heads-number.result in
    let at = subst (λ hs. slice_get hs i ≡ Some h) c.head-heads.ensures (slice_get-get_or c.head-heads.result.now i h c.loop-number-test.true ∙ ap Some (sym c.index-heads-number.is)) in
    distinct_in c.args.clause.now.head i h at c.requires

pub returns-then-clashes : goal.returns-then-clashes
returns-then-clashes c =
    let i = c.loop-number.number in
    let h = c.index-heads-number.result in
    let t = c.index-arguments-number.result in
    let at = subst (λ hs. slice_get hs i ≡ Some h) c.head-heads.ensures (slice_get-get_or c.head-heads.result.now i h c.loop-number-test.true ∙ ap Some (sym c.index-heads-number.is)) in
    let beside = slice_get-get_or c.args.arguments.now i t c.if-number-arguments.true ∙ ap Some (sym c.index-arguments-number.is) in
    let there = clashes_there c.args.clause.now c.args.arguments.now (value_at c.args.store.now.held) i h t at beside in
    (i, refl, (there.0 (c.in_ok-clashes.ensures.0 c.if-clashes.true), c.loop-number.invariant))

pub loop-number-preserved : goal.loop-number-preserved
loop-number-preserved c =
    let i = c.loop-number.number in
    let h = c.index-heads-number.result in
    let t = c.index-arguments-number.result in
    let S = value_at c.args.store.now.held in
    let at = subst (λ hs. slice_get hs i ≡ Some h) c.head-heads.ensures (slice_get-get_or c.head-heads.result.now i h c.loop-number-test.true ∙ ap Some (sym c.index-heads-number.is)) in
    let beside = slice_get-get_or c.args.arguments.now i t c.if-number-arguments.true ∙ ap Some (sym c.index-arguments-number.is) in
    let there = clashes_there c.args.clause.now c.args.arguments.now S i h t at beside in
    none_more (MismatchIn c.args.clause.now c.args.arguments.now S) i c.loop-number.invariant
    (λ m. let clash : false ≡ true = sym c.if-clashes.false ∙ c.in_ok-clashes.ensures.1 (there.1 m) in cc)

pub returns-else-number-arguments : goal.returns-else-number-arguments
returns-else-number-arguments c i m =
    let within = within_both c.args.clause.now c.args.arguments.now (value_at c.args.store.now.held) i m in
    c.loop-number.invariant i (omega (arith, within.1, c.if-number-arguments.false)) m

pub returns-after-loop-number : goal.returns-after-loop-number
returns-after-loop-number c i m =
    let within = within_both c.args.clause.now c.args.arguments.now (value_at c.args.store.now.held) i m in
    let same = ap length c.head-heads.ensures in
    c.loop-number.invariant i (omega (arith, within.0, c.loop-number-test.false, same)) m
