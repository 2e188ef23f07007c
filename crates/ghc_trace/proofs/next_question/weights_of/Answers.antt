use Rattle.ghc_trace.proofs.Words.{◌≡◌, ◌≤◌, ◌+◌, ◌-◌, ◌<◌, ℕ, Bool, true, false, List, length, get_or, take, map, Option, Some, None, refl, sym, ap, ◌∙◌, subst, arith, slice_get}
use Rattle.std.proofs.lemmas.Option.{slice_get-get_or, slice_get_read}
use Rattle.std.specs.List.{sum}
use Rattle.std.specs.Prelude.{IfSome}
use Rattle.ghc_trace.proofs.CallPlaces.{maker_before}
use Rattle.ghc_trace.proofs.CallCounts.{added_within, both_fit, less_sum, ones_sum, ones_within}
use Rattle.ghc_trace.proofs.CallWeights.{AreCountedFrom, counted_closed, counted_first, counted_moved, weights_told}
use Rattle.ghc_trace.specs.inner.BlameCode.{AreWeightsWithin, count_open, one_of}
use Rattle.ghc_trace.proofs.next_question.weights_of.Goals as goal

pub loop-place-init : goal.loop-place-init
loop-place-init c =
    let calls = c.args.calls.now.list.items in
    let doubts = c.args.doubts.now in
    let n = c.len-place.result in
    let long : length doubts ≡ length calls = c.requires in
    let place : n ≡ length calls = c.len-place.ensures ∙ c.args.calls.now.list.ok.0 in
    let ones = sym c.in_ok-weights.ensures in (
      omega (arith, long, place),
      subst (AreWeightsWithin doubts) ones (ones_within doubts),
      subst (λ (l : List ℕ). sum (take n l) ≤ count_open doubts) ones (ones_sum doubts n (omega (arith, long, place))),
      λ P query rs t target told top replay are q. subst (AreCountedFrom rs t target told top calls doubts n) ones
          (subst (λ k. AreCountedFrom rs t target told top calls doubts k (map one_of doubts)) (sym place) (counted_first P query rs t replay target calls are told top doubts q)),
    )

-- The last of the places that are left.
last_place : (k n : ℕ) → 0 < k → k ≤ n → (k - 1 + 1 ≡ k) × (k - 1 < n)
last_place k n low high = (omega (arith, low), omega (arith, low, high))

fits : (o : Option ℕ) (doubts : List Bool) (weights : List ℕ) (h : AreWeightsWithin doubts weights) (j : ℕ) → j < length doubts → sum (take (j + 1) weights) ≤ count_open doubts → IfSome o (λ p. p < j)
    → IfSome o (λ p. (p < j) × (get_or weights p 0 + get_or weights j 0 ≤ length weights))
fits None doubts weights h j short bound low = tt
fits (Some p) doubts weights h j short bound low = (low, both_fit doubts weights h j short bound p low)

pub add_to_maker-requires-clause-maker : goal.add_to_maker-requires-clause-maker
add_to_maker-requires-clause-maker c =
    let calls = c.args.calls.now.list.items in
    let doubts = c.args.doubts.now in
    let weights = c.loop-place.weights.items in
    let k = c.loop-place.place in
    let j = k - 1 in
    let d = c.index.result.now in
    let long : length doubts ≡ length calls = c.requires in
    let last = last_place k (length doubts) c.loop-place-test.true c.loop-place.invariant.0 in
    let short = last.1 in
    let at : slice_get calls j ≡ Some d = slice_get_read calls (length calls) j d refl (omega (arith, short, long)) c.index.ensures in
    fits d.maker doubts weights c.loop-place.invariant.1 j last.1 (subst (λ n. sum (take n weights) ≤ count_open doubts) (sym last.0) c.loop-place.invariant.2) (maker_before calls c.args.calls.now.before j d at)

pub loop-place-preserved-then-doubts-place : goal.loop-place-preserved-then-doubts-place
loop-place-preserved-then-doubts-place c =
    let calls = c.args.calls.now.list.items in
    let doubts = c.args.doubts.now in
    let weights = c.loop-place.weights.items in
    let new = c.add_to_maker.new.weights.items in
    let k = c.loop-place.place in
    let j = k - 1 in
    let d = c.index.result.now in
    let long : length doubts ≡ length calls = c.requires in
    let last = last_place k (length doubts) c.loop-place-test.true c.loop-place.invariant.0 in
    let short = last.1 in
    let at : slice_get calls j ≡ Some d = slice_get_read calls (length calls) j d refl (omega (arith, short, long)) c.index.ensures in
    let is_open : slice_get doubts j ≡ Some true = slice_get-get_or doubts j false last.1 ∙ ap Some c.if-doubts-place.true in
    let within = c.loop-place.invariant.1 in
    let bound = subst (λ n. sum (take n weights) ≤ count_open doubts) (sym last.0) c.loop-place.invariant.2 in
    let added = added_within doubts weights within j last.1 bound d.maker new (maker_before calls c.args.calls.now.before j d at) c.add_to_maker.ensures in (
      omega (arith, short),
      added.0,
      added.1,
      λ P query rs t target told top replay are q.
          let counted = subst (λ n. AreCountedFrom rs t target told top calls doubts n weights) (sym last.0) (c.loop-place.invariant.3 P query rs t target told top replay are q) in
          counted_moved P query rs t replay target calls are told top doubts q j d at is_open weights new counted within.long c.add_to_maker.ensures,
    )

pub loop-place-preserved : goal.loop-place-preserved
loop-place-preserved c =
    let calls = c.args.calls.now.list.items in
    let doubts = c.args.doubts.now in
    let weights = c.loop-place.weights.items in
    let k = c.loop-place.place in
    let j = k - 1 in
    let last = last_place k (length doubts) c.loop-place-test.true c.loop-place.invariant.0 in
    let short = last.1 in
    let within = c.loop-place.invariant.1 in
    let bound = subst (λ n. sum (take n weights) ≤ count_open doubts) (sym last.0) c.loop-place.invariant.2 in (
      omega (arith, short),
      within,
      less_sum doubts weights within j last.1 bound,
      λ P query rs t target told top replay are q.
          let counted = subst (λ n. AreCountedFrom rs t target told top calls doubts n weights) (sym last.0) (c.loop-place.invariant.3 P query rs t target told top replay are q) in
          counted_closed P query rs t replay target calls are told top doubts q j weights c.if-doubts-place.false counted,
    )

pub returns-clause-weights : goal.returns-clause-weights
returns-clause-weights c P query rs t target told top replay are q i w d at holds weight =
    let calls = c.args.calls.now.list.items in
    let doubts = c.args.doubts.now in
    let zero : c.loop-place.place ≡ 0 = omega (arith, c.loop-place-test.false) in
    let counted = subst (λ n. AreCountedFrom rs t target told top calls doubts n c.loop-place.weights.items) zero (c.loop-place.invariant.3 P query rs t target told top replay are q) in
    weights_told P query rs t replay target calls are told top doubts q c.loop-place.weights.items counted i w d at holds weight
