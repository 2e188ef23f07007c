use Rattle.ghc_records.proofs.Words.{◌≡◌, ◌+◌, ◌∷◌, ◌++◌, [], ℕ, List, IfSome, IfNone, inr, ap, sym, ◌∙◌, subst, map, map-append, Fault, Entry, IsLineOf, pieces_of, AreInTurn, IsInTurn, next_after, next_behind, SaysEntry, said_by}
use Rattle.ghc_records.proofs.SectionLemmas.{HasRead, SaysNext, no_more_read, nothing_read, one_more_read}
use Rattle.ghc_records.proofs.TurnLemmas.{next_more, turn_last, turn_more}
use Rattle.ghc_records.proofs.text.entries_reading.read_entries.Goals as goal

pub loop-index-init : goal.loop-index-init
loop-index-init c =
    let none = ap (map said_by) c.new-entries.ensures.items in
    record {
      read = nothing_read SaysEntry (AreInTurn c.args.next) c.args.text.now (map said_by c.new-entries.result.items) none tt;
      turn = sym (ap (next_behind c.args.next) none);
      small = c.requires.next;
    }

pub returns-in-Ok-None-clause-fault : goal.returns-in-Ok-None-clause-fault
returns-in-Ok-None-clause-fault c =
    let rest = c.loop-index.rest.now in
    let pieces = pieces_of c.args.text.now in
    let next = c.args.next in
    let es = map said_by c.loop-index.entries.items in
    let held = c.loop-index.invariant in
    let none = subst (λ o. IfNone o ((line : List ℕ) (e : Entry) → IsLineOf (pieces_of rest) 0 line → SaysEntry line e → ¬ IsInTurn c.loop-index.turn e)) c.in-Ok-None.field-0-is c.in-Ok-None.ensures.none in
    inr (
      es,
      ap (λ n. Fault.History (c.args.first + n)) (sym held.read.all),
      no_more_read SaysEntry (AreInTurn next) pieces c.loop-index.index rest es held.read c.args.count c.loop-index-test.true
          (λ line e stands says fit. none line e stands says (subst (λ n. IsInTurn n e) (sym held.turn) (turn_last next es e fit))),
    )

pub loop-index-preserved : goal.loop-index-preserved
loop-index-preserved c =
    let rest = c.loop-index.rest.now in
    let pieces = pieces_of c.args.text.now in
    let next = c.args.next in
    let items = c.loop-index.entries.items in
    let es = map said_by items in
    let e = said_by c.in-Ok-Some.entry in
    let held = c.loop-index.invariant in
    let fit = AreInTurn next in
    let says = subst (λ o. IfSome o (λ told. SaysNext SaysEntry fit rest (said_by told.0) told.1.now)) c.in-Ok-Some.field-0-is c.in-Ok-Some.ensures.some in
    let turn = subst (λ o. IfSome o (λ told. IsInTurn c.loop-index.turn (said_by told.0))) c.in-Ok-Some.field-0-is c.in-Ok-Some.ensures.in_turn in
    let grown : map said_by c.push.new.self.items ≡ es ++ e ∷ [] = ap (map said_by) c.in_ok-push-in-Ok-Some.ensures.items ∙ map-append said_by items (c.in-Ok-Some.entry ∷ []) in
    record {
      read = subst (HasRead SaysEntry fit pieces (c.loop-index.index + 1) c.in-Ok-Some.further.now) (sym grown)
          (one_more_read SaysEntry fit pieces c.loop-index.index rest es held.read e c.in-Ok-Some.further.now says (turn_more next es e held.read.told.fit (subst (λ n. IsInTurn n e) held.turn turn)));
      turn = c.number_after-turn.ensures.next ∙ ap (λ n. next_after n e) held.turn ∙ sym (next_more next es e) ∙ ap (next_behind next) (sym grown);
      small = c.number_after-turn.ensures.small;
    }
