use Rattle.ghc_shared.proofs.Words.{◌≡◌, ◌++◌, [], ◌∷◌, length, sym, ap, ◌∙◌, subst, MatchBool, AddsOneIf, items_of, history, Reply, IsAnswerTo}
use mathlib.Core.List.{IsPrefix}
use Rattle.std.proofs.lemmas.Result.{err_from_is_err_and}
use Rattle.ghc_shared.specs.declared.receipt.Receipt as given
use Rattle.ghc_shared.specs.declared.calls.Call.TheVariants.{Submit}
use Rattle.ghc_shared.proofs.AtOnce.{adds_at_once, opened_at_once, told_at_once}
use Rattle.ghc_shared.proofs.Keeping.{adds_one, knows_seen, decided}
use Rattle.ghc_shared.proofs.locked.stepping.Locked+Core+N.step_at_once.Goals as goal

pub book_call-requires-clause-keeper : goal.book_call-requires-clause-keeper
book_call-requires-clause-keeper g c = let had = rw (sym c.in-Some.ensures.result) at c.self.invariant in (had.1.0, knows_seen had.1.1)

pub book_call-requires-clause-pass : goal.book_call-requires-clause-pass
book_call-requires-clause-pass g c = (c.me.invariant.0, rw c.reserve.ensures.items c.me.invariant.1)

pub book_call-requires-clause-adds : goal.book_call-requires-clause-adds
book_call-requires-clause-adds g c =
    let had = rw (sym c.in-Some.ensures.result) at c.self.invariant in
    let w = c.self.inside.value.world in
    let v = c.propose_and_take.new.core.world in
    let is = c.in_ok-reply.ensures.answered in
    let accepted = c.tells_change-accepted.result in
    let adds = adds_at_once is c.answers_add_what_they_tell.ensures accepted c.tells_change-accepted.ensures c.stands.ensures.legal in
    subst (λ l. AddsOneIf accepted l (history v.opening v.journal)) (sym had.1.1.same) (adds_one IsAnswerTo accepted (history w.opening w.journal) (history v.opening v.journal) (Submit is.step) c.in_ok-reply.reply adds)

pub book_call-requires-clause-counts : goal.book_call-requires-clause-counts
book_call-requires-clause-counts g c =
    let had = rw (sym c.in-Some.ensures.result) at c.self.invariant in
    (c.len-place.ensures.length ∙ ap length (sym had.1.1.same), c.len-count.ensures.length)

pub invariant_of-self : goal.invariant_of-self
invariant_of-self g c = rw c.in_err-reply.ensures.stays.0 c.self.invariant

pub invariant_of-me : goal.invariant_of-me
invariant_of-me g c = (c.me.invariant.0, rw c.reserve.ensures.items c.me.invariant.1)

pub invariant_of-self-2 : goal.invariant_of-self-2
invariant_of-self-2 g c =
    let had = rw (sym c.in-Some.ensures.result) at c.self.invariant in
    (opened_at_once c.in_ok-reply.ensures.answered c.answers_add_what_they_tell.ensures ∙ had.0, rw c.replace-2.ensures.new c.book_call.ensures.keeper)

pub invariant_of-me-2 : goal.invariant_of-me-2
invariant_of-me-2 g c = c.book_call.ensures.pass

pub returns-clause-begins : goal.returns-clause-begins
returns-clause-begins g c = subst (λ l. IsPrefix l (items_of c.book_call.new.seat.me.0.seen)) (ap (λ v. v.front) c.me.view_is) c.book_call.ensures.begins

pub returns-clause-stepped : goal.returns-clause-stepped
returns-clause-stepped g c =
    let had = rw (sym c.in-Some.ensures.result) at c.self.invariant in
    let w = c.self.inside.value.world in
    let v = c.propose_and_take.new.core.world in
    let is = c.in_ok-reply.ensures.answered in
    let place = c.len-place.result in
    let accepted = c.tells_change-accepted.result in
    let receipt : given.Receipt Reply = record { place = place; accepted = accepted; reply = c.in_ok-reply.reply } in
    let before = history w.opening w.journal in
    let places = c.book_call.new.places.items in
    told_at_once c.legal_is_reachable.ensures c.leaves_is_one.ensures g.N.Naming.opened w v c.args.goal before receipt c.in_ok-reply.made _ _ c.args.woken.now.items c.propose_and_take.new.woken.items c.tells_change-accepted.ensures had.0 is
    (decided IsAnswerTo before (history v.opening v.journal) (Submit is.step) receipt _ _
    (subst (λ k. IsPrefix k.front before) c.me.view_is (subst (λ l. IsPrefix (items_of c.me.inside.seat.me.0.seen) l) had.1.1.same c.book_call.ensures.seen))
    c.len-place.ensures.length
    (adds_at_once is c.answers_add_what_they_tell.ensures accepted c.tells_change-accepted.ensures c.stands.ensures.legal)
    c.book_call.ensures.front
    (subst (λ l. MatchBool accepted (places ≡ l ++ place ∷ []) (places ≡ l)) (c.reserve.ensures.items ∙ ap (λ k. k.places) c.me.view_is) c.book_call.ensures.places))

pub returns-in_err-reply-clause-refused : goal.returns-in_err-reply-clause-refused
returns-in_err-reply-clause-refused g c =
    let p = err_from_is_err_and c.from_residual.result c.from_residual.ensures.1 in
    rw (p.1, p.2) (c.self.inside.value.world, rw (sym c.self.invariant.0) c.in_err-reply.ensures.refused)
