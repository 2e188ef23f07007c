use Rattle.ghc_trace.proofs.Words.{◌≡◌, ◌↔◌, Some, None, IsTrue, refl, sym, ap, ◌∙◌, subst, option_copied, NotesByGoal, Status, ready}
use Rattle.std.specs.FinMap as finite
use Rattle.ghc_trace.proofs.WhyNotTold.{goes_by_note, goes_unnoted}
use Rattle.ghc_trace.proofs.why_not.may_go_on.Goals as goal

pub returns-in_default : goal.returns-in_default
returns-in_default c =
    let g = c.args.goal in
    let none = ap (λ (n : NotesByGoal). finite.get n g) (sym c.tries.ensures.notes) ∙ sym c.get.ensures ∙ ap option_copied c.in_default.is in
    (λ _. goes_unnoted c.args.core.now.world c.args.core.now.notes c.requires.settled g none c.requires.there, λ _. refl)

pub returns : goal.returns
returns c =
    let g = c.args.goal in
    let note = c.in-Some.note.now in
    let is : finite.get c.args.core.now.notes g ≡ Some note = ap (λ (n : NotesByGoal). finite.get n g) (sym c.tries.ensures.notes) ∙ sym c.get.ensures ∙ ap option_copied c.in-Some.is in
    goes_by_note c.args.core.now.world c.args.core.now.notes c.requires.settled g note is c.is_ready.result (subst (λ (s : Status). IsTrue c.is_ready.result ↔ (s ≡ ready)) (sym c.verdict.ensures) c.is_ready.ensures)
