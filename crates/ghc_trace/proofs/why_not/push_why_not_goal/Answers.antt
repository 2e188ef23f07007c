use Rattle.ghc_trace.proofs.Words.{◌≡◌, Some, None, IsTrue, [], VarName, sym, ap, ◌∙◌, subst, append-nil, option_copied, string_bytes, NotesByGoal, ready, waiting, failed, status_of, IsHookedOn}
use Rattle.std.specs.FinMap as finite
use Rattle.std.specs.FinSet as set
use Rattle.ghc_trace.proofs.CausePlaces.{on_ok}
use Rattle.ghc_trace.proofs.WhyNotTold.{nothing_noted, nothing_unnoted, told_as, waits_first, waits_free}
use Rattle.ghc_trace.proofs.why_not.push_why_not_goal.Goals as goal

pub returns-in_default : goal.returns-in_default
returns-in_default c =
    let g = c.args.g in
    let none = ap (λ (n : NotesByGoal). finite.get n g) (sym c.tries.ensures.notes) ∙ sym c.get.ensures ∙ ap option_copied c.in_default.is in
    ([], nothing_unnoted c.args.core.now.world c.args.core.now.notes c.requires g none, sym (append-nil (string_bytes c.args.out.now)))

pub returns-in-Ready : goal.returns-in-Ready
returns-in-Ready c =
    let g = c.args.g in
    let note = c.in-Some.note.now in
    let is : finite.get c.args.core.now.notes g ≡ Some note = ap (λ (n : NotesByGoal). finite.get n g) (sym c.tries.ensures.notes) ∙ sym c.get.ensures ∙ ap option_copied c.in-Some.is in (
      [],
      nothing_noted c.args.core.now.world c.args.core.now.notes c.requires g note is (λ xs e. let clash : ready ≡ waiting xs = sym (c.verdict.ensures ∙ ap status_of c.in-Ready.is) ∙ e in cc),
      sym (append-nil (string_bytes c.args.out.now)),
    )

pub returns-in-Failed : goal.returns-in-Failed
returns-in-Failed c =
    let g = c.args.g in
    let note = c.in-Some.note.now in
    let is : finite.get c.args.core.now.notes g ≡ Some note = ap (λ (n : NotesByGoal). finite.get n g) (sym c.tries.ensures.notes) ∙ sym c.get.ensures ∙ ap option_copied c.in-Some.is in (
      [],
      nothing_noted c.args.core.now.world c.args.core.now.notes c.requires g note is (λ xs e. let clash : failed c.in-Failed.field-0 ≡ waiting xs = sym (c.verdict.ensures ∙ ap status_of c.in-Failed.is) ∙ e in cc),
      sym (append-nil (string_bytes c.args.out.now)),
    )

pub push_asked-requires-clause-unbound : goal.push_asked-requires-clause-unbound
push_asked-requires-clause-unbound c =
    let g = c.args.g in
    let note = c.in-Some.note.now in
    let is : finite.get c.args.core.now.notes g ≡ Some note = ap (λ (n : NotesByGoal). finite.get n g) (sym c.tries.ensures.notes) ∙ sym c.get.ensures ∙ ap option_copied c.in-Some.is in
    waits_free c.args.core.now.world c.args.core.now.notes c.requires g note c.in-Waiting.awaited is (c.verdict.ensures ∙ ap status_of c.in-Waiting.is)

pub returns-in-Waiting : goal.returns-in-Waiting
returns-in-Waiting c =
    let w = c.args.core.now.world in
    let g = c.args.g in
    let note = c.in-Some.note.now in
    let xs = c.in-Waiting.awaited in
    let is : finite.get c.args.core.now.notes g ≡ Some note = ap (λ (n : NotesByGoal). finite.get n g) (sym c.tries.ensures.notes) ∙ sym c.get.ensures ∙ ap option_copied c.in-Some.is in
    let waits = c.verdict.ensures ∙ ap status_of c.in-Waiting.is in
    on_ok c.push_asked.result c.push_asked.ensures (λ told. (
      told.0,
      told_as w (λ (y : VarName). IsTrue (set.contains xs y)) (λ y. IsHookedOn w.opening.program w.state.goals w.state.store y g) (waits_first w c.args.core.now.notes c.requires g note xs is waits) told.1,
      told.2,
    ))
