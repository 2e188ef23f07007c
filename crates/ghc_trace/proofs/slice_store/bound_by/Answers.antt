use Rattle.std.specs.Prelude.{IfSome}
use Rattle.ghc_trace.proofs.Words.{◌≡◌, Bor, List, ℕ, Option, get_or, take, sym, subst, arith, take_more, take_all, In, in_get, Record}
use Rattle.ghc_trace.proofs.Explained.{some_there}
use Rattle.ghc_trace.proofs.SliceStore.{AreBoundBy, bound_more}
use Rattle.ghc_trace.proofs.slice_store.bound_by.Goals as goal

pub loop-number-init : goal.loop-number-init
loop-number-init c x = (λ i. absurd (subst (In x) c.new-bound.ensures.items i), λ q. absurd q.1)

pub unwrap-step-requires : goal.unwrap-step-requires
unwrap-step-requires c =
    let n = get_or c.args.steps.now c.loop-number.number-index 0 in
    let kept = c.requires n (in_get c.args.steps.now c.loop-number.number-index 0 c.loop-number-test.true) in
    some_there c.get.result _ c.get.ensures.none (λ none. none kept.0 kept.1.0 kept.1.1)

pub loop-number-preserved : goal.loop-number-preserved
loop-number-preserved c =
    let ns = c.args.steps.now in
    let kept = c.args.records.now.held in
    let i = c.loop-number.number-index in
    let n = get_or ns i 0 in
    let step = c.unwrap-step.result.now in
    let new = c.add_bound.new.bound.items in
    let found = subst (λ (o : Option (Bor Record)). IfSome o (λ r. In r.now kept × (r.now.number ≡ n))) c.unwrap-step.ensures c.get.ensures.found in
    subst (λ (l : List ℕ). AreBoundBy kept l new) (sym (take_more ns i 0 c.loop-number-test.true))
    (bound_more kept (take i ns) n step c.loop-number.bound.items new c.len-count.ensures.distinct found.0 found.1 c.loop-number.invariant c.in_ok-add_bound.ensures)

pub returns : goal.returns
returns c =
    let ns = c.args.steps.now in
    subst (λ (l : List ℕ). AreBoundBy c.args.records.now.held l c.loop-number.bound.items) (take_all c.loop-number.number-index ns (omega (arith, c.loop-number-test.false))) c.loop-number.invariant
