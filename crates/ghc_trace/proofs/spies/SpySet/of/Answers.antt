use Rattle.ghc_trace.proofs.Words.{take, sym, ap, ◌∙◌, take_all, predicate, spied_of}
use Rattle.std.specs.FinSet as set
use Rattle.ghc_records.specs.declared.predicate.Predicate as written
use Rattle.ghc_trace.proofs.SpyOrder.{one_spied}
use Rattle.ghc_trace.proofs.spies.SpySet.of.Goals as goal

pub loop-predicate-init : goal.loop-predicate-init
loop-predicate-init c = c.new-spies.ensures

pub loop-predicate-preserved : goal.loop-predicate-preserved
loop-predicate-preserved c =
    let ps = c.args.predicates.now in
    let i = c.loop-predicate.predicate-index in
    let p = c.predicate-item.result in
    c.in_ok-add.ensures.ok ∙ ap (λ s. set.insert s (predicate p.name p.arity)) c.loop-predicate.invariant
    ∙ ap (λ (q : written.Predicate). set.insert (spied_of (take i ps)) (predicate q.name q.arity)) c.predicate-item.is ∙ sym (one_spied ps i p c.loop-predicate-test.true)

pub returns : goal.returns
returns c = c.loop-predicate.invariant ∙ ap spied_of (take_all c.loop-predicate.predicate-index c.args.predicates.now c.loop-predicate-test.false)
