use Rattle.ghc_records.proofs.Words.{◌≡◌, ◌<◌, true, false, take, length, IfSome, sym, ap, ◌∙◌, subst, arith, get_or_from_slice_get, slice_get_within, In, Step}
use Rattle.ghc_term.proofs.ListsLemmas.{each_next}
use Rattle.ghc_records.proofs.text.steps_reading.count_below.Goals as goal

pub loop-index-init : goal.loop-index-init
loop-index-init c = λ s i. absurd i

pub returns-then-not-is_below-clause-below : goal.returns-then-not-is_below-clause-below
returns-then-not-is_below-clause-below c = c.loop-index.invariant

pub returns-then-not-is_below-clause-stop : goal.returns-then-not-is_below-clause-stop
returns-then-not-is_below-clause-stop c = λ s at low.
    let step = c.index-steps-index.result in
    let number = c.number.ensures ∙ ap (λ t. t.number) (c.index-steps-index.is ∙ get_or_from_slice_get c.args.steps.now c.loop-index.index s step at) in
    let clash : true ≡ false = sym (c.is_below.ensures.1 (subst (λ n. IfSome c.args.bound (λ next. n < next)) (sym number) low)) ∙ c.if-not-is_below.true in
    cc

pub loop-index-preserved : goal.loop-index-preserved
loop-index-preserved c =
    let step = c.index-steps-index.result in
    let is_low = λ (s : Step). IfSome c.args.bound (λ next. s.number < next) in
    let low = subst (λ n. IfSome c.args.bound (λ next. n < next)) c.number.ensures (c.is_below.ensures.0 c.if-not-is_below.false) in
    each_next is_low c.args.steps.now c.loop-index.index step c.loop-index-test.true c.loop-index.invariant (subst is_low c.index-steps-index.is low)

pub returns-clause-below : goal.returns-clause-below
returns-clause-below c =
    let steps = c.args.steps.now in
    subst (λ n. (s : Step) → In s (take n steps) → IfSome c.args.bound (λ next. s.number < next))
    (omega (arith, c.loop-index-test.false, c.loop-index.auto.index-end)) c.loop-index.invariant

pub returns-clause-stop : goal.returns-clause-stop
returns-clause-stop c = λ s at low. let within = slice_get_within c.args.steps.now (length c.args.steps.now) s at in omega (arith, within)
