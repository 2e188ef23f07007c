use Rattle.ghc_trace.proofs.Words.{◌++◌, Option, ℕ, Record, codes, ap, ◌∙◌, subst, append_assoc, string_bytes}
use Rattle.ghc_records.specs.Journal.{step_of}
use Rattle.ghc_records.specs.StepText.{goal_name_text, step_text}
use Rattle.ghc_trace.specs.BlameLines.{TellsCallOf, fault_of_goal, fault_of_step, made_is_too_long}
use Rattle.ghc_trace.specs.inner.BlameLinesCode.{IsTakerOf}
use Rattle.ghc_trace.proofs.BlameTold.{taker_goal, taker_kept, too_long_call}
use Rattle.ghc_trace.proofs.CausePlaces.{on_ok}
use Rattle.ghc_trace.proofs.verdict_lines.write_fault_of_call.Goals as goal

pub returns-in-Err-clause-too_long : goal.returns-in-Err-clause-too_long
returns-in-Err-clause-too_long c e rs t answers about fault =
    let d = c.args.told.now in
    too_long_call d.core.now.world rs t d.target answers c.args.call.now.name fault (c.write_call_told.ensures.too_long (c.in-Err.is ∙ e) rs t about)

pub write_fault_of_step-requires : goal.write_fault_of_step-requires
write_fault_of_step-requires c =
    let told = c.requires.told in
    let at = c.requires.call in
    taker_kept c.args.told.now told.0 told.1 told.2 at.0 c.args.call.now at.1 c.in-Some.number c.in-Some.is

pub returns-in-Some-clause-text : goal.returns-in-Some-clause-text
returns-in-Some-clause-text c = on_ok c.write_fault_of_step.result c.write_fault_of_step.ensures.text (λ tells rs t answers about fault.
    let d = c.args.told.now in
    let w = d.core.now.world in
    let q = c.in-Ok.ensures.text rs t about in
    let k = subst (λ (o : Option ℕ). IsTakerOf rs o q.0) c.in-Some.is q.2 in
    let m = tells rs t k.0 about k.1 in
    let tail = m.0 ++ (codes "fault " ++ (step_text (step_of k.0) ++ codes "\n")) in (
      q.1 ++ tail,
      fault_of_step fault (subst (λ (o : Option Record). TellsCallOf w rs t d.target c.args.call.now.name o q.1) k.2 q.3) m.1,
      m.2 ∙ ap (λ l. l ++ tail) q.4 ∙ append_assoc (string_bytes c.args.out.now) q.1 tail,
    ))

pub returns-in-Some-clause-too_long : goal.returns-in-Some-clause-too_long
returns-in-Some-clause-too_long c e rs t answers about fault =
    let d = c.args.told.now in
    let w = d.core.now.world in
    let g = c.args.call.now.name in
    let q = c.in-Ok.ensures.text rs t about in
    let k = subst (λ (o : Option ℕ). IsTakerOf rs o q.0) c.in-Some.is q.2 in
    let took = taker_goal w rs t d.target g k.0 q.1 (subst (λ (o : Option Record). TellsCallOf w rs t d.target g o q.1) k.2 q.3) in
    let long = c.write_fault_of_step.ensures.too_long e rs t k.0 about k.1 in
    made_is_too_long g k.0 long.0 fault took.0 took.1 long.1 long.2

pub returns-in_ok-write_fault_of_goal-in-None-clause-text : goal.returns-in_ok-write_fault_of_goal-in-None-clause-text
returns-in_ok-write_fault_of_goal-in-None-clause-text c rs t answers about fault =
    let d = c.args.told.now in
    let w = d.core.now.world in
    let g = c.args.call.now.name in
    let q = c.in-Ok.ensures.text rs t about in
    let none = subst (λ (o : Option ℕ). IsTakerOf rs o q.0) c.in-None.is q.2 in
    let tail = codes "fault " ++ (goal_name_text g ++ codes "\n") in (
      q.1 ++ tail,
      fault_of_goal fault (subst (λ (o : Option Record). TellsCallOf w rs t d.target g o q.1) none q.3),
      c.in_ok-write_fault_of_goal-in-None.ensures.text ∙ ap (λ l. l ++ tail) q.4 ∙ append_assoc (string_bytes c.args.out.now) q.1 tail,
    )
