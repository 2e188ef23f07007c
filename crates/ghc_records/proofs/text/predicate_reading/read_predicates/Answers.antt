use Rattle.ghc_records.proofs.Words.{◌+◌, ℕ, List, IfSome, IfNone, inr, ap, sym, subst, Fault, Predicate, IsLineOf, pieces_of, GoTogether, SaysPredicate}
use Rattle.ghc_records.proofs.SectionLemmas.{HasRead, SaysNext, no_more_read, nothing_read, one_more_read}
use Rattle.ghc_records.proofs.text.predicate_reading.read_predicates.Goals as goal

pub loop-index-init : goal.loop-index-init
loop-index-init c = nothing_read SaysPredicate GoTogether c.args.text.now c.new-predicates.result.items c.new-predicates.ensures.items tt

pub returns-in-Ok-None-clause-fault : goal.returns-in-Ok-None-clause-fault
returns-in-Ok-None-clause-fault c =
    let rest = c.loop-index.rest.now in
    let pieces = pieces_of c.args.text.now in
    let none = subst (λ o. IfNone o ((line : List ℕ) (p : Predicate) → IsLineOf (pieces_of rest) 0 line → ¬ SaysPredicate line p)) c.in-Ok-None.field-0-is c.in-Ok-None.ensures.none in
    inr (
      c.loop-index.predicates.items,
      ap (λ n. Fault.History (c.args.first + n)) (sym c.loop-index.invariant.all),
      no_more_read SaysPredicate GoTogether pieces c.loop-index.index rest c.loop-index.predicates.items c.loop-index.invariant c.args.count c.loop-index-test.true (λ line p stands says fit. none line p stands says),
    )

pub loop-index-preserved : goal.loop-index-preserved
loop-index-preserved c =
    let rest = c.loop-index.rest.now in
    let pieces = pieces_of c.args.text.now in
    let says = subst (λ o. IfSome o (λ told. SaysNext SaysPredicate GoTogether rest told.0 told.1.now)) c.in-Ok-Some.field-0-is c.in-Ok-Some.ensures.some in
    subst (HasRead SaysPredicate GoTogether pieces (c.loop-index.index + 1) c.in-Ok-Some.further.now) (sym c.in_ok-push-in-Ok-Some.ensures.items)
    (one_more_read SaysPredicate GoTogether pieces c.loop-index.index rest c.loop-index.predicates.items c.loop-index.invariant c.in-Ok-Some.predicate c.in-Ok-Some.further.now says tt)
