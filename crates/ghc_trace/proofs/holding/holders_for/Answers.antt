use Rattle.ghc_trace.proofs.Words.{◌≡◌, ◌≢◌, Some, None, List, sym, ap, ◌∙◌, subst, option_copied, NotesByGoal, ready, waiting, failed}
use Rattle.std.specs.FinMap as finite
use Rattle.ghc_hooks.specs.Verdict.{status_of}
use Rattle.ghc_records.specs.Orders.{Picks}
use Rattle.ghc_trace.specs.declared.holding.Holder.{Holder}
use Rattle.ghc_trace.specs.Holding.{AreHoldersFor}
use Rattle.ghc_core.proofs.Redone.{if_ok}
use Rattle.ghc_trace.proofs.HeldFor.{nobody_noted, nobody_unnoted, others_hold}
use Rattle.ghc_trace.proofs.holding.holders_for.Goals as goal

pub returns-in_default : goal.returns-in_default
returns-in_default c =
    let w = c.args.core.now.world in
    let notes = c.args.core.now.notes in
    let g = c.args.goal in
    let none : finite.get notes g ≡ None = ap (λ (n : NotesByGoal). finite.get n g) (sym c.tries.ensures.notes) ∙ sym c.get.ensures ∙ ap option_copied c.in_default.is in
    subst (λ (hs : List Holder). AreHoldersFor w g hs) (sym c.new.ensures.items) (nobody_unnoted w notes c.requires g none)

pub returns-in-Ready : goal.returns-in-Ready
returns-in-Ready c =
    let w = c.args.core.now.world in
    let notes = c.args.core.now.notes in
    let g = c.args.goal in
    let note = c.in-Some.note.now in
    let is : finite.get notes g ≡ Some note = ap (λ (n : NotesByGoal). finite.get n g) (sym c.tries.ensures.notes) ∙ sym c.get.ensures ∙ ap option_copied c.in-Some.is in
    subst (λ (hs : List Holder). AreHoldersFor w g hs) (sym c.new-in-Ready.ensures.items)
    (nobody_noted w notes c.requires g note is (λ xs e. let clash : ready ≡ waiting xs = sym (c.verdict.ensures ∙ ap status_of c.in-Ready.is) ∙ e in cc))

pub returns-in-Failed : goal.returns-in-Failed
returns-in-Failed c =
    let w = c.args.core.now.world in
    let notes = c.args.core.now.notes in
    let g = c.args.goal in
    let note = c.in-Some.note.now in
    let is : finite.get notes g ≡ Some note = ap (λ (n : NotesByGoal). finite.get n g) (sym c.tries.ensures.notes) ∙ sym c.get.ensures ∙ ap option_copied c.in-Some.is in
    subst (λ (hs : List Holder). AreHoldersFor w g hs) (sym c.new-in-Failed.ensures.items)
    (nobody_noted w notes c.requires g note is (λ xs e. let clash : failed c.in-Failed.field-0 ≡ waiting xs = sym (c.verdict.ensures ∙ ap status_of c.in-Failed.is) ∙ e in cc))

pub returns-in_ok-all-in-Waiting : goal.returns-in_ok-all-in-Waiting
returns-in_ok-all-in-Waiting c =
    let w = c.args.core.now.world in
    let notes = c.args.core.now.notes in
    let g = c.args.goal in
    let note = c.in-Some.note.now in
    let xs = c.in-Waiting.awaited in
    let is : finite.get notes g ≡ Some note = ap (λ (n : NotesByGoal). finite.get n g) (sym c.tries.ensures.notes) ∙ sym c.get.ensures ∙ ap option_copied c.in-Some.is in
    let waits : note.status ≡ waiting xs = c.verdict.ensures ∙ ap status_of c.in-Waiting.is in
    let all = c.in_ok-all-in-Waiting.all.items in
    if_ok c.of_others.result c.of_others.ensures (λ list picked. others_hold w notes c.requires g note xs is waits all list.items c.in_ok-all-in-Waiting.ensures
    (subst (λ (l : List Holder). Picks (λ h. h.goal ≢ g) l list.items) c.as_slice.ensures.value picked))
