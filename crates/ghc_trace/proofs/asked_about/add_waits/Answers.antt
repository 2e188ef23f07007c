use Rattle.ghc_trace.proofs.Words.{◌≡◌, ◌≢◌, Some, None, sym, ap, ◌∙◌, subst, option_copied, NotesByGoal, StoreValue, ready, waiting, failed, status_of, value_at}
use Rattle.std.specs.FinMap as finite
use Rattle.ghc_term.specs.Sets.{IsSetOf}
use Rattle.ghc_trace.specs.Holding.{GoalReaches}
use Rattle.ghc_trace.specs.inner.WhyNotCode.{GainsUnder}
use Rattle.ghc_trace.proofs.CausePlaces.{on_ok}
use Rattle.ghc_trace.proofs.AskedAbout.{calm_noted, calm_unnoted, waits_noted}
use Rattle.ghc_trace.proofs.asked_about.add_waits.Goals as goal

pub returns-in_default : goal.returns-in_default
returns-in_default c =
    let notes = c.args.core.now.notes in
    let g = c.args.name in
    calm_unnoted c.args.core.now.world notes c.requires.settled g c.args.waits.now
    (ap (λ (n : NotesByGoal). finite.get n g) (sym c.tries.ensures.notes) ∙ sym c.get.ensures ∙ ap option_copied c.in_default.is)

pub returns-in-Ready : goal.returns-in-Ready
returns-in-Ready c =
    let notes = c.args.core.now.notes in
    let g = c.args.name in
    let note = c.in-Some.note.now in
    let is : finite.get notes g ≡ Some note = ap (λ (n : NotesByGoal). finite.get n g) (sym c.tries.ensures.notes) ∙ sym c.get.ensures ∙ ap option_copied c.in-Some.is in
    calm_noted c.args.core.now.world notes c.requires.settled g c.args.waits.now note is (λ xs e. let clash : ready ≡ waiting xs = sym (c.verdict.ensures ∙ ap status_of c.in-Ready.is) ∙ e in cc)

pub returns-in-Failed : goal.returns-in-Failed
returns-in-Failed c =
    let notes = c.args.core.now.notes in
    let g = c.args.name in
    let note = c.in-Some.note.now in
    let is : finite.get notes g ≡ Some note = ap (λ (n : NotesByGoal). finite.get n g) (sym c.tries.ensures.notes) ∙ sym c.get.ensures ∙ ap option_copied c.in-Some.is in
    calm_noted c.args.core.now.world notes c.requires.settled g c.args.waits.now note is (λ xs e. let clash : failed c.in-Failed.field-0 ≡ waiting xs = sym (c.verdict.ensures ∙ ap status_of c.in-Failed.is) ∙ e in cc)

pub returns-in_ok-reached-in-Waiting : goal.returns-in_ok-reached-in-Waiting
returns-in_ok-reached-in-Waiting c =
    let w = c.args.core.now.world in
    let notes = c.args.core.now.notes in
    let g = c.args.name in
    let note = c.in-Some.note.now in
    let xs = c.in-Waiting.awaited in
    let reached = c.in_ok-reached-in-Waiting.reached in
    let b = c.args.goal.now in
    let old = c.args.waits.now in
    let is : finite.get notes g ≡ Some note = ap (λ (n : NotesByGoal). finite.get n g) (sym c.tries.ensures.notes) ∙ sym c.get.ensures ∙ ap option_copied c.in-Some.is in
    let waits : note.status ≡ waiting xs = c.verdict.ensures ∙ ap status_of c.in-Waiting.is in
    let members : IsSetOf reached (GoalReaches (value_at w.state.store) b) = subst (λ (s : StoreValue). IsSetOf reached (GoalReaches (value_at s) b)) c.store.ensures c.in_ok-reached-in-Waiting.ensures in
    on_ok c.add_under.result c.add_under.ensures (λ gains. waits_noted w notes c.requires.settled g old c.add_under.new.waits note xs reached b is waits c.requires.there members
    (subst (λ (s : StoreValue). GainsUnder (value_at s) old c.add_under.new.waits reached xs) c.store-in-Waiting.ensures gains))
