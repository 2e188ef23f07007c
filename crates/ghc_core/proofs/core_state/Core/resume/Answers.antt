use Rattle.ghc_core.proofs.Words.{◌≡◌, ◌+◌, inl, inr, length, List, sym, ap, ◌∙◌, arith, length-map, said_by, History, Entry, Core, resumes}
use Rattle.ghc_core.proofs.Firings.{resumed_count}
use Rattle.ghc_core.proofs.ResumeSteps.{loaded_opened, opening_refused, entry_refused, spy_refused, program_stays}
use Rattle.ghc_core.proofs.core_state.Core.resume.Goals as goal

pub returns-in-Err-clause-answer : goal.returns-in-Err-clause-answer
returns-in-Err-clause-answer c = (
  tt,
  elim c.in-Err.ensures.answer.1 [
    | inl memory ↦ inl memory
    | inr loaded ↦ inr (opening_refused _ _ _ c.args.chronicle.now (rw c.opening-opening.ensures at loaded))
  ],
)

pub returns-in-Err-carry_out_each-clause-answer : goal.returns-in-Err-carry_out_each-clause-answer
returns-in-Err-carry_out_each-clause-answer c =
    let opens = loaded_opened _ _ _ c.args.chronicle.now (rw c.opening-opening.ensures at c.in-Ok.ensures.answer.0) in
    let steps : length c.steps.result.now + 4 ≡ length c.args.chronicle.now.opening.steps + 4 = cc in
    (tt, entry_refused _ _ _ _ _ c.in-Err-carry_out_each.fault _ opens steps (rw c.entries-entries.ensures at c.in-Err-carry_out_each.ensures.refused))

pub returns-in-Some-clause-answer : goal.returns-in-Some-clause-answer
returns-in-Some-clause-answer c =
    let h = c.args.chronicle.now in
    let opens = loaded_opened _ _ _ h (rw c.opening-opening.ensures at c.in-Ok.ensures.answer.0) in
    let each = rw c.entries-entries.ensures at c.in-Ok-carry_out_each.ensures.carried in
    let steps : length c.steps.result.now ≡ length h.opening.steps = cc in
    let entries : length c.entries-entries.result.now ≡ length h.entries = sym (length-map c.entries-entries.result.now said_by) ∙ ap (λ (es : List Entry). length es) c.entries-entries.ensures in
    let program : c.core.inside.program.value ≡ c.args.program = ap (λ (x : Core). x.world.opening.program) c.core.view_is ∙ program_stays _ _ _ h _ _ opens each in
    let lacks = rw (c.deref.ensures, program, c.spies.ensures) at c.in-Some.ensures.some in (
      tt,
      inr (spy_refused _ _ _ _ _ _ c.in-Some.index (length c.steps.result.now + 4 + length c.entries-entries.result.now + 1 + c.in-Some.index)
          opens each lacks (omega (arith, steps, entries))),
    )

pub returns-in-None-clause-answer : goal.returns-in-None-clause-answer
returns-in-None-clause-answer c =
    let opens = loaded_opened _ _ _ c.args.chronicle.now (rw c.opening-opening.ensures at c.in-Ok.ensures.answer.0) in
    let each = rw c.entries-entries.ensures at c.in-Ok-carry_out_each.ensures.carried in
    let program : c.core.inside.program.value ≡ c.args.program =
    ap (λ (x : Core). x.world.opening.program) c.core.view_is ∙ program_stays _ _ _ c.args.chronicle.now _ _ opens each in
    (resumes _ (_, opens, each) (rw (c.deref.ensures, program, c.spies.ensures) at c.in-None.ensures.none), tt)

pub returns-in-None-clause-meter : goal.returns-in-None-clause-meter
returns-in-None-clause-meter c =
    resumed_count _ _ _ _ (c.in-Ok.ensures.meter.0 ∙ ap (λ (x : History). length x.steps) c.opening-opening.ensures) c.in-Ok.ensures.meter.1
    (rw c.entries-entries.ensures at c.in-Ok-carry_out_each.ensures.meter) c.requires.opening.few c.requires.entries
