use Rattle.ghc_shared.proofs.Words.{◌≡◌, ◌++◌, [], ◌∷◌, length, sym, ap, ◌∙◌, subst, MatchBool, AddsIfAccepted, AddsOneIf, items_of}
use mathlib.Core.List.{IsPrefix}
use Rattle.ghc_shared.proofs.Keeping.{adds_one, knows_seen, decided}
use Rattle.ghc_shared.proofs.locked.Locked.call.Goals as goal

pub book_call-requires-clause-keeper : goal.book_call-requires-clause-keeper
book_call-requires-clause-keeper g c = let had = rw (sym c.in-Some.ensures.result) at c.self.invariant in (had.1.0, knows_seen had.1.1)

pub book_call-requires-clause-pass : goal.book_call-requires-clause-pass
book_call-requires-clause-pass g c = (c.me.invariant.0, rw c.reserve.ensures.items c.me.invariant.1)

pub book_call-requires-clause-adds : goal.book_call-requires-clause-adds
book_call-requires-clause-adds g c =
    let had = rw (sym c.in-Some.ensures.result) at c.self.invariant in
    let receipt = c.call_with-receipt.result.0 in
    let history' = g.C.Growing.history c.call_with-receipt.new.value in
    subst (λ l. AddsOneIf receipt.accepted l history') (sym had.1.1.same)
    (adds_one g.C.Growing.answers receipt.accepted (g.C.Growing.history c.self.inside.value) history' c.args.ask receipt.reply c.call_with-receipt.ensures.call)

pub book_call-requires-clause-counts : goal.book_call-requires-clause-counts
book_call-requires-clause-counts g c =
    let had = rw (sym c.in-Some.ensures.result) at c.self.invariant in
    (c.call_with-receipt.ensures.place ∙ ap length (sym had.1.1.same), c.call_with-receipt.ensures.count)

pub invariant_of-self : goal.invariant_of-self
invariant_of-self g c =
    let had = rw (sym c.in-Some.ensures.result) at c.self.invariant in
    (c.call_with-receipt.ensures.opened ∙ had.0, rw c.replace-2.ensures.new c.book_call.ensures.keeper)

pub invariant_of-me : goal.invariant_of-me
invariant_of-me g c = c.book_call.ensures.pass

pub returns-clause-begins : goal.returns-clause-begins
returns-clause-begins g c = subst (λ l. IsPrefix l (items_of c.book_call.new.seat.me.0.seen)) (ap (λ v. v.front) c.me.view_is) c.book_call.ensures.begins

pub returns-clause-decided : goal.returns-clause-decided
returns-clause-decided g c =
    let had = rw (sym c.in-Some.ensures.result) at c.self.invariant in
    let receipt = c.call_with-receipt.result.0 in
    let history = g.C.Growing.history c.args.self.now in
    let history' = g.C.Growing.history c.call_with-receipt.new.value in
    let before = ap (λ v. g.C.Growing.history v) c.self.view_is in
    let places = c.book_call.new.places.items in
    decided g.C.Growing.answers history history' c.args.ask receipt _ _
    (subst (λ v. IsPrefix v.front history) c.me.view_is (subst (λ l. IsPrefix (items_of c.me.inside.seat.me.0.seen) l) (had.1.1.same ∙ before) c.book_call.ensures.seen))
    (c.call_with-receipt.ensures.place ∙ ap length before)
    (subst (λ l. AddsIfAccepted g.C.Growing.answers receipt.accepted l history' c.args.ask receipt.reply) before c.call_with-receipt.ensures.call)
    c.book_call.ensures.front
    (subst (λ l. MatchBool receipt.accepted (places ≡ l ++ receipt.place ∷ []) (places ≡ l)) (c.reserve.ensures.items ∙ ap (λ v. v.places) c.me.view_is) c.book_call.ensures.places)
