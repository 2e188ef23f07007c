use Rattle.ghc_trace.proofs.Words.{◌≡◌, ◌+◌, ℕ, true, false, length, get_or, Some, refl, sym, ap, ◌∙◌, subst, arith, slice_get}
use Rattle.std.proofs.lemmas.Option.{get_or_from_slice_get, slice_get-get_or, slice_get_read}
use Rattle.ghc_trace.proofs.CallAnswers.{IsBestSoFar, best_asked, best_more, best_stays, none_left}
use Rattle.ghc_trace.specs.declared.next_question.Choice.{Choice}
use Rattle.ghc_trace.proofs.next_question.next_question.Goals.{then-doubts-place, else-doubts-place}
use Rattle.ghc_trace.proofs.next_question.next_question.Goals as goal

pub loop-place-preserved : goal.loop-place-preserved
loop-place-preserved c =
    let calls = c.args.calls.now.list.items in
    let doubts = c.args.doubts.now in
    let weights = c.in_ok-weights.weights.items in
    let count = c.count_of-count.result in
    let k = c.loop-place.place in
    let short = c.loop-place-test.true in
    let long : length doubts ≡ length calls = c.requires in
    let as_many = c.in_ok-weights.ensures.within.long in
    elim c.if-doubts-place.branch [
      | then-doubts-place w ↦
          let d = w.index.result.now in
          let weight : ℕ = w.index-then-doubts-place.result.now in
          let new : Choice = record { place = k; name = d.name; off = w.off_half.result } in
          let at : slice_get calls k ≡ Some d = slice_get_read calls (length calls) k d refl (omega (arith, short, long)) w.index.ensures in
          let is_open : slice_get doubts k ≡ Some true = slice_get-get_or doubts k false short ∙ ap Some w.if-doubts-place.true in
          let weighs : slice_get weights k ≡ Some weight = slice_get_read weights (length weights) k weight refl (omega (arith, short, as_many)) w.index-then-doubts-place.ensures in
          subst (IsBestSoFar calls doubts weights count (k + 1)) (sym w.best-is)
          (best_more calls doubts weights count k c.loop-place.best new w.better.result c.loop-place.invariant refl (d, weight, at, is_open, weighs, refl, w.off_half.ensures) w.better.ensures.chosen w.better.ensures.best w.better.ensures.other)
      | else-doubts-place w ↦
          let closed : ¬ (slice_get doubts k ≡ Some true) = λ is_open.
          let value : get_or doubts k false ≡ true = get_or_from_slice_get doubts k true false is_open in
          let clash : true ≡ false = sym value ∙ w.if-doubts-place.false in
          cc in
          subst (IsBestSoFar calls doubts weights count (k + 1)) (sym w.best-is) (best_stays calls doubts weights count k c.loop-place.best c.loop-place.invariant closed)
    ]

pub returns-in-Some : goal.returns-in-Some
returns-in-Some c P query rs t target told top replay are q =
    let calls = c.args.calls.now.list.items in
    let doubts = c.args.doubts.now in
    let weights = c.in_ok-weights.weights.items in
    let count = c.count_of-count.result in
    let k = c.loop-place.place in (
      best_asked P query rs t replay target calls are told top doubts q weights count k c.in-Some.choice c.loop-place-test.false c.in_ok-weights.ensures.within.long c.count_of-count.ensures.count
          (c.in_ok-weights.ensures.weights P query rs t target told top replay are q) (subst (IsBestSoFar calls doubts weights count k) c.in-Some.is c.loop-place.invariant),
      tt,
    )

pub returns : goal.returns
returns c P query rs t target told top replay are q =
    let calls = c.args.calls.now.list.items in
    let doubts = c.args.doubts.now in
    let weights = c.in_ok-weights.weights.items in
    let count = c.count_of-count.result in
    let k = c.loop-place.place in
    (tt, none_left P query rs t replay target calls are told top doubts q k c.loop-place-test.false (subst (IsBestSoFar calls doubts weights count k) c.in-None.is c.loop-place.invariant))
