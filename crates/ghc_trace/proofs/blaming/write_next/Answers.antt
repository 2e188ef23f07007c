use Rattle.std.specs.Prelude.{IfNone, IfSome}
use Rattle.ghc_trace.proofs.Words.{◌≡◌, ◌++◌, List, Bool, Option, GoalName, length, codes, sym, subst, slice_get_within, same_value}
use Rattle.std.specs.Fmt.{decimal}
use Rattle.ghc_records.specs.StepText.{goal_name_text}
use Rattle.ghc_trace.specs.BlameLines.{asks}
use Rattle.ghc_trace.specs.Blaming.{IsAsked, IsInQuestion}
use Rattle.ghc_trace.specs.declared.next_question.Next.{Next}
use Rattle.ghc_trace.specs.declared.slice_calls.Call.{Call}
use Rattle.ghc_trace.specs.inner.BlameCode.{AreInQuestion, StandsAtPlace}
use Rattle.ghc_trace.proofs.BlameAnswers.{too_long_asked}
use Rattle.ghc_trace.proofs.CallsCounted.{few_calls}
use Rattle.ghc_trace.proofs.CausePlaces.{on_ok}
use Rattle.ghc_trace.proofs.blaming.write_next.Goals as goal

pub next_question-requires : goal.next_question-requires
next_question-requires c =
    let d = c.args.told.now in
    let w = d.core.now.world in
    let s = c.requires.told in
    let q = c.in_ok-questions.ensures w.opening.program w.opening.query s.0 s.1 d.target s.2.world.replay s.2.calls in
    subst (λ (l : List Bool). length l ≡ length d.calls.now.list.items) (sym c.as_slice.ensures.value) q.3.long

pub at-requires : goal.at-requires
at-requires c =
    let s = c.requires.told in
    let d = c.args.told.now in
    let w = d.core.now.world in
    let q = c.in_ok-questions.ensures w.opening.program w.opening.query s.0 s.1 d.target s.2.world.replay s.2.calls in
    let said = subst (AreInQuestion s.0 s.1 d.target c.args.answers.now q.0 d.calls.now.list.items) (sym c.as_slice.ensures.value) q.3 in
    let next = c.in_ok-asked.ensures w.opening.program w.opening.query s.0 s.1 d.target c.args.answers.now q.0 s.2.world.replay s.2.calls said in
    let one = subst (λ (o : Option Next). IfSome o (λ z. (k : Call) × StandsAtPlace d.calls.now.list.items z.place k × IsAsked s.0 s.1 d.target c.args.answers.now q.0 z.count k.name)) c.in-Some.is next.0 in
    slice_get_within d.calls.now.list.items c.in-Some.next.place one.0 one.1

pub write_question-requires-clause-call : goal.write_question-requires-clause-call
write_question-requires-clause-call c =
    let s = c.requires.told in
    let d = c.args.told.now in
    let w = d.core.now.world in
    let q = c.in_ok-questions.ensures w.opening.program w.opening.query s.0 s.1 d.target s.2.world.replay s.2.calls in
    let said = subst (AreInQuestion s.0 s.1 d.target c.args.answers.now q.0 d.calls.now.list.items) (sym c.as_slice.ensures.value) q.3 in
    let next = c.in_ok-asked.ensures w.opening.program w.opening.query s.0 s.1 d.target c.args.answers.now q.0 s.2.world.replay s.2.calls said in
    let one = subst (λ (o : Option Next). IfSome o (λ z. (k : Call) × StandsAtPlace d.calls.now.list.items z.place k × IsAsked s.0 s.1 d.target c.args.answers.now q.0 z.count k.name)) c.in-Some.is next.0 in
    (c.in-Some.next.place, c.at.ensures)

pub write_question-requires-clause-few : goal.write_question-requires-clause-few
write_question-requires-clause-few c =
    let s = c.requires.told in
    let d = c.args.told.now in
    let w = d.core.now.world in
    let q = c.in_ok-questions.ensures w.opening.program w.opening.query s.0 s.1 d.target s.2.world.replay s.2.calls in
    let said = subst (AreInQuestion s.0 s.1 d.target c.args.answers.now q.0 d.calls.now.list.items) (sym c.as_slice.ensures.value) q.3 in
    let next = c.in_ok-asked.ensures w.opening.program w.opening.query s.0 s.1 d.target c.args.answers.now q.0 s.2.world.replay s.2.calls said in
    let one = subst (λ (o : Option Next). IfSome o (λ z. (k : Call) × StandsAtPlace d.calls.now.list.items z.place k × IsAsked s.0 s.1 d.target c.args.answers.now q.0 z.count k.name)) c.in-Some.is next.0 in
    few_calls w.opening.program w.opening.query s.0 s.1 d.target q.0 c.args.answers.now c.in-Some.next.count s.2.world.replay one.2.questions

pub returns-in-Some-clause-text : goal.returns-in-Some-clause-text
returns-in-Some-clause-text c = on_ok c.write_question.result c.write_question.ensures.text (λ tells rs t about.
    let d = c.args.told.now in
    let w = d.core.now.world in
    let q = c.in_ok-questions.ensures w.opening.program w.opening.query rs t d.target about.world.replay about.calls in
    let said = subst (AreInQuestion rs t d.target c.args.answers.now q.0 d.calls.now.list.items) (sym c.as_slice.ensures.value) q.3 in
    let next = c.in_ok-asked.ensures w.opening.program w.opening.query rs t d.target c.args.answers.now q.0 about.world.replay about.calls said in
    let one = subst (λ (o : Option Next). IfSome o (λ z. (k : Call) × StandsAtPlace d.calls.now.list.items z.place k × IsAsked rs t d.target c.args.answers.now q.0 z.count k.name)) c.in-Some.is next.0 in
    let asked = subst (λ (k : Call). IsAsked rs t d.target c.args.answers.now q.0 c.in-Some.next.count k.name) (same_value one.1 c.at.ensures) one.2 in
    let m = tells rs t about in
    (m.1 ++ (codes "ask " ++ (goal_name_text c.at.result.now.name ++ (codes " of " ++ (decimal c.in-Some.next.count ++ codes "\n")))), asks q.2 asked m.2, m.3))

pub returns-in-Some-clause-too_long : goal.returns-in-Some-clause-too_long
returns-in-Some-clause-too_long c e rs t about =
    let d = c.args.told.now in
    let w = d.core.now.world in
    let q = c.in_ok-questions.ensures w.opening.program w.opening.query rs t d.target about.world.replay about.calls in
    let said = subst (AreInQuestion rs t d.target c.args.answers.now q.0 d.calls.now.list.items) (sym c.as_slice.ensures.value) q.3 in
    let next = c.in_ok-asked.ensures w.opening.program w.opening.query rs t d.target c.args.answers.now q.0 about.world.replay about.calls said in
    let one = subst (λ (o : Option Next). IfSome o (λ z. (k : Call) × StandsAtPlace d.calls.now.list.items z.place k × IsAsked rs t d.target c.args.answers.now q.0 z.count k.name)) c.in-Some.is next.0 in
    let asked = subst (λ (k : Call). IsAsked rs t d.target c.args.answers.now q.0 c.in-Some.next.count k.name) (same_value one.1 c.at.ensures) one.2 in
    too_long_asked d rs t about c.args.answers.now q.0 c.in-Some.next.count c.at.result.now.name q.2 asked (c.write_question.ensures.too_long e rs t about)

pub write_verdict-requires-clause-top : goal.write_verdict-requires-clause-top
write_verdict-requires-clause-top c =
    let s = c.requires.told in
    let d = c.args.told.now in
    let w = d.core.now.world in
    let q = c.in_ok-questions.ensures w.opening.program w.opening.query s.0 s.1 d.target s.2.world.replay s.2.calls in
    (q.0, q.1)

pub returns-clause-text : goal.returns-clause-text
returns-clause-text c = on_ok c.write_verdict.result c.write_verdict.ensures.text (λ tells rs t about.
    let d = c.args.told.now in
    let w = d.core.now.world in
    let q = c.in_ok-questions.ensures w.opening.program w.opening.query rs t d.target about.world.replay about.calls in
    let said = subst (AreInQuestion rs t d.target c.args.answers.now q.0 d.calls.now.list.items) (sym c.as_slice.ensures.value) q.3 in
    let next = c.in_ok-asked.ensures w.opening.program w.opening.query rs t d.target c.args.answers.now q.0 about.world.replay about.calls said in
    let none = subst (λ (o : Option Next). IfNone o ((g : GoalName) → ¬ IsInQuestion rs t d.target c.args.answers.now q.0 g)) c.in-None.is next.1 in
    tells rs t c.args.answers.now q.0 about q.1 (q.2, none))

pub returns-clause-too_long : goal.returns-clause-too_long
returns-clause-too_long c e rs t about =
    let d = c.args.told.now in
    let w = d.core.now.world in
    let q = c.in_ok-questions.ensures w.opening.program w.opening.query rs t d.target about.world.replay about.calls in
    let said = subst (AreInQuestion rs t d.target c.args.answers.now q.0 d.calls.now.list.items) (sym c.as_slice.ensures.value) q.3 in
    let next = c.in_ok-asked.ensures w.opening.program w.opening.query rs t d.target c.args.answers.now q.0 about.world.replay about.calls said in
    let none = subst (λ (o : Option Next). IfNone o ((g : GoalName) → ¬ IsInQuestion rs t d.target c.args.answers.now q.0 g)) c.in-None.is next.1 in
    c.write_verdict.ensures.too_long e rs t c.args.answers.now q.0 about q.1 (q.2, none)
