use Rattle.ghc_trace.proofs.Words.{◌≡◌, ℕ, Some, None, Option, ap, ◌∙◌, subst, slice_get_within, same_value}
use Rattle.ghc_trace.specs.Blaming.{IsFault}
use Rattle.ghc_trace.specs.declared.slice_calls.Call.{Call}
use Rattle.ghc_trace.specs.inner.BlameCode.{IsNameOfTop}
use Rattle.ghc_trace.proofs.CausePlaces.{on_ok}
use Rattle.ghc_trace.proofs.blaming.write_verdict.Goals as goal

pub at-requires : goal.at-requires
at-requires c =
    let calls = c.args.told.now.calls.now.list.items in
    let top = subst (λ (o : Option ℕ). IsNameOfTop calls o c.requires.top.0) c.in-Some.is c.requires.top.1 in
    slice_get_within calls c.in-Some.place top.0 top.1

pub write_fault_of_call-requires-clause-call : goal.write_fault_of_call-requires-clause-call
write_fault_of_call-requires-clause-call c = (c.in-Some.place, c.at.ensures)

pub returns-in-Some-clause-text : goal.returns-in-Some-clause-text
returns-in-Some-clause-text c = on_ok c.write_fault_of_call.result c.write_fault_of_call.ensures.text (λ tells rs t answers name about is fault.
    let d = c.args.told.now in
    let top = subst (λ (o : Option ℕ). IsNameOfTop d.calls.now.list.items o name) c.in-Some.is is in
    let named : name ≡ Some c.at.result.now.name = top.2 ∙ ap (λ (k : Call). Some k.name) (same_value top.1 c.at.ensures) in
    tells rs t answers about (subst (IsFault rs t d.target answers) named fault))

pub returns-in-Some-clause-too_long : goal.returns-in-Some-clause-too_long
returns-in-Some-clause-too_long c e rs t answers name about is fault =
    let d = c.args.told.now in
    let top = subst (λ (o : Option ℕ). IsNameOfTop d.calls.now.list.items o name) c.in-Some.is is in
    let named : name ≡ Some c.at.result.now.name = top.2 ∙ ap (λ (k : Call). Some k.name) (same_value top.1 c.at.ensures) in
    c.write_fault_of_call.ensures.too_long e rs t answers about (subst (IsFault rs t d.target answers) named fault)

pub returns-in-None-clause-text : goal.returns-in-None-clause-text
returns-in-None-clause-text c = on_ok c.write_fault_of_query.result c.write_fault_of_query.ensures.text (λ tells rs t answers name about is fault.
    let d = c.args.told.now in
    let none : name ≡ None = subst (λ (o : Option ℕ). IsNameOfTop d.calls.now.list.items o name) c.in-None.is is in
    tells rs t answers about (subst (IsFault rs t d.target answers) none fault))

pub returns-in-None-clause-too_long : goal.returns-in-None-clause-too_long
returns-in-None-clause-too_long c e rs t answers name about is fault =
    let d = c.args.told.now in
    let none : name ≡ None = subst (λ (o : Option ℕ). IsNameOfTop d.calls.now.list.items o name) c.in-None.is is in
    c.write_fault_of_query.ensures.too_long e rs t answers about (subst (IsFault rs t d.target answers) none fault)
