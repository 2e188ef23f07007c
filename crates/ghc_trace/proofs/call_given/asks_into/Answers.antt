use Rattle.std.specs.Prelude.{IfSome}
use Rattle.ghc_trace.proofs.Words.{◌≡◌, [], ◌∷◌, ◌++◌, List, Bor, Option, get_or, take, true, false, sym, ap, ◌∙◌, subst, arith, In, in_get, Record, nothing, pick_last, leave_last}
use Rattle.ghc_records.proofs.OrderLemmas.{numbers_append}
use Rattle.ghc_trace.specs.inner.PartsCode.{ArePickedNumbers, NamesInside}
use Rattle.ghc_trace.proofs.Explained.{some_there}
use Rattle.ghc_trace.proofs.PartSteps.{all_taken, split_at}
use Rattle.ghc_trace.proofs.call_given.asks_into.Goals.{then-reaches_in+in_ok-push, else-reaches_in}
use Rattle.ghc_trace.proofs.call_given.asks_into.Goals as goal

pub loop-number-init : goal.loop-number-init
loop-number-init c rs are = ([], nothing, sym c.new-asks.ensures.items)

pub unwrap-step-requires : goal.unwrap-step-requires
unwrap-step-requires c =
    let n = get_or c.args.steps.now c.loop-number.number-index 0 in
    let kept = c.requires n (in_get c.args.steps.now c.loop-number.number-index 0 c.loop-number-test.true) in
    some_there c.get.result _ c.get.ensures.none (λ none. none kept.0 kept.1.0 kept.1.1)

pub loop-number-preserved : goal.loop-number-preserved
loop-number-preserved c rs are =
    let ns = c.args.steps.now in
    let i = c.loop-number.number-index in
    let n = get_or ns i 0 in
    let kept = c.args.records.now.held in
    let part = c.args.part.now.keys in
    let items = c.loop-number.asks.items in
    let step = c.unwrap-step.result.now in
    let found = subst (λ (o : Option (Bor Record)). IfSome o (λ r. In r.now kept × (r.now.number ≡ n))) c.unwrap-step.ensures c.get.ensures.found in
    let split = split_at kept rs ns are c.len-count.ensures.distinct i c.loop-number-test.true step found.0 found.1 in
    let so_far = c.loop-number.invariant rs are in
    elim c.if-reaches_in.branch [
      | then-reaches_in+in_ok-push w ↦ rw w.asks-is (subst (λ (l : List Record). ArePickedNumbers (NamesInside kept part) l w.push.new.self.items) (sym split.1) (
        so_far.0 ++ step ∷ [],
        pick_last (take i rs) so_far.0 step so_far.1 (c.reaches_in.ensures.0 w.if-reaches_in.true),
        numbers_append so_far.0 (step ∷ []) ∙ ap (λ l. l ++ step.number ∷ []) so_far.2 ∙ ap (λ k. items ++ k ∷ []) found.1 ∙ sym w.in_ok-push.ensures.items,
      ))
      | else-reaches_in w ↦ rw w.asks-is (subst (λ (l : List Record). ArePickedNumbers (NamesInside kept part) l items) (sym split.1)
          (so_far.0, leave_last (take i rs) so_far.0 step so_far.1 (λ yes. let clash : false ≡ true = sym w.if-reaches_in.false ∙ c.reaches_in.ensures.1 yes in cc), so_far.2))
    ]

pub returns : goal.returns
returns c rs are =
    subst (λ (l : List Record). ArePickedNumbers (NamesInside c.args.records.now.held c.args.part.now.keys) l c.loop-number.asks.items)
    (all_taken c.args.records.now.held rs c.args.steps.now are c.loop-number.number-index (omega (arith, c.loop-number-test.false))) (c.loop-number.invariant rs are)
