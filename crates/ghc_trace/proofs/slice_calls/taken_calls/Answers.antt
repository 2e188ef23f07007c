use Rattle.std.specs.Prelude.{IfSome}
use Rattle.ghc_trace.proofs.Words.{◌≡◌, [], List, Bor, Option, get_or, take, sym, subst, arith, In, in_get, Record}
use Rattle.ghc_trace.proofs.CallsFound.{none_called, taken_more}
use Rattle.ghc_trace.proofs.CallPlaces.{there_is}
use Rattle.ghc_trace.proofs.PartSteps.{all_taken, split_at}
use Rattle.ghc_trace.specs.Blaming.{IsCallTaken}
use Rattle.ghc_trace.specs.declared.slice_calls.Call.{Call}
use Rattle.ghc_trace.specs.inner.BlameCode.{AreCallsBy}
use Rattle.ghc_trace.proofs.slice_calls.taken_calls.Goals as goal

pub loop-number-init : goal.loop-number-init
loop-number-init c = (c.new-found.ensures.found, λ P query rs t are replay. subst (λ (l : List Call). AreCallsBy rs (IsCallTaken []) l) (sym c.new-found.ensures.list) (none_called rs))

pub unwrap-step-requires : goal.unwrap-step-requires
unwrap-step-requires c =
    let n = get_or c.args.steps.now c.loop-number.number-index 0 in
    let kept = c.requires n (in_get c.args.steps.now c.loop-number.number-index 0 c.loop-number-test.true) in
    there_is c.get.result _ c.get.ensures.none (λ none. none kept.0 kept.1.0 kept.1.1)

pub loop-number-preserved : goal.loop-number-preserved
loop-number-preserved c = (
  c.in_ok-add_taken.ensures.found,
  λ P query rs t are replay.
      let ns = c.args.steps.now in
      let i = c.loop-number.number-index in
      let n = get_or ns i 0 in
      let step = c.unwrap-step.result.now in
      let found = subst (λ (o : Option (Bor Record)). IfSome o (λ r. In r.now c.args.records.now.held × (r.now.number ≡ n))) c.unwrap-step.ensures c.get.ensures.found in
      let split = split_at c.args.records.now.held rs ns are c.len-count.ensures.distinct i c.loop-number-test.true step found.0 found.1 in
      let so_far = c.loop-number.invariant.1 P query rs t are replay in
      subst (λ (l : List Record). AreCallsBy rs (IsCallTaken l) c.add_taken.new.self.list.items) (sym split.1)
      (taken_more P query rs t replay (take i rs) _ step split.0 c.loop-number.found.list.items c.add_taken.new.self.list.items so_far c.in_ok-add_taken.ensures.list),
)

pub returns-clause-calls : goal.returns-clause-calls
returns-clause-calls c P query rs t are replay =
    subst (λ (l : List Record). AreCallsBy rs (IsCallTaken l) c.loop-number.found.list.items) (all_taken c.args.records.now.held rs c.args.steps.now are c.loop-number.number-index (omega (arith, c.loop-number-test.false)))
    (c.loop-number.invariant.1 P query rs t are replay)
