use Rattle.ghc_trace.proofs.Words.{◌≡◌, ℕ, List, Option, sym, ap, ◌∙◌, subst, GoalName, In, Err, Fault, World}
use Rattle.ghc_trace.specs.declared.blaming.Behind.{Behind}
use Rattle.ghc_trace.specs.declared.judgements.Answer.{Answer}
use Rattle.ghc_trace.specs.declared.judgements.Subject.{Subject}
use Rattle.ghc_trace.specs.BlameLines.{HasTooLongTold, TellsBlame, target_of}
use Rattle.ghc_trace.specs.Blaming.{IsCallOf}
use Rattle.ghc_trace.specs.inner.BlameLinesCode.{IsGathered, IsToldSlice}
use Rattle.ghc_trace.proofs.CausePlaces.{on_ok}
use Rattle.ghc_trace.proofs.blaming.write_blame.Goals as goal

-- What is handed on is about the slice.
about_told : (w : World) (s : Subject) (b : Behind) (g : IsGathered w s b) (ns : List ℕ) (target : Option GoalName) → ns ≡ b.steps.items → target ≡ target_of s
    → IsToldSlice w ns b.store.held b.calls.list.items target g.slice g.state
about_told w s b g ns target numbers same =
    subst (λ (o : Option GoalName). IsToldSlice w ns b.store.held b.calls.list.items o g.slice g.state) (sym same)
    (subst (λ (l : List ℕ). IsToldSlice w l b.store.held b.calls.list.items (target_of s) g.slice g.state) (sym numbers) g.about)

pub write_answered-requires-clause-told : goal.write_answered-requires-clause-told
write_answered-requires-clause-told c =
    let g = c.in-Ok.ensures.told in
    (g.slice, g.state, about_told c.args.core.now.world c.args.subject c.in-Ok.behind g c.as_slice.result.now c.target_of-target.result c.as_slice.ensures.value c.target_of-target.ensures)

pub returns-in-Err-clause-no_place : goal.returns-in-Err-clause-no_place
returns-in-Err-clause-no_place c e = let same : c.in-Err.fault ≡ Fault.NoVariable = cc in c.told_behind.ensures.no_place (c.in-Err.is ∙ ap Err same)

pub returns-clause-text : goal.returns-clause-text
returns-clause-text c = on_ok c.write_answered.result c.write_answered.ensures.text (λ tells.
    let w = c.args.core.now.world in
    let g = c.in-Ok.ensures.told in
    let q = tells g.slice g.state (about_told w c.args.subject c.in-Ok.behind g c.as_slice.result.now c.target_of-target.result c.as_slice.ensures.value c.target_of-target.ensures) in (
      q.1.0,
      record {
        slice = g.slice;
        rest = g.rest;
        state = g.state;
        is_slice = g.is_slice;
        is_there = g.is_there;
        replays = g.about.world.replay;
        about_calls = subst (λ (o : Option GoalName). (a : Answer) → In a c.args.answers.now → IsCallOf g.slice g.state o a.goal) c.target_of-target.ensures q.0;
        tells = subst (λ (o : Option GoalName). TellsBlame w g.slice g.state o c.args.answers.now q.1.0) c.target_of-target.ensures q.1.1;
      },
      q.1.2,
    ))

pub returns-clause-beside : goal.returns-clause-beside
returns-clause-beside c e =
    let w = c.args.core.now.world in
    let g = c.in-Ok.ensures.told in
    let about = about_told w c.args.subject c.in-Ok.behind g c.as_slice.result.now c.target_of-target.result c.as_slice.ensures.value c.target_of-target.ensures in
    let q = c.write_answered.ensures.beside e g.slice g.state about in
    (g.is_there, g.slice, g.rest, g.state, q.0, g.is_slice, g.about.world.replay, q.1, subst (λ (o : Option GoalName). ¬ IsCallOf g.slice g.state o q.0.goal) c.target_of-target.ensures q.2)

pub returns-clause-too_long : goal.returns-clause-too_long
returns-clause-too_long c e =
    let w = c.args.core.now.world in
    let g = c.in-Ok.ensures.told in
    let about = about_told w c.args.subject c.in-Ok.behind g c.as_slice.result.now c.target_of-target.result c.as_slice.ensures.value c.target_of-target.ensures in
    let q = c.write_answered.ensures.too_long e g.slice g.state about in (
      g.is_there,
      g.slice,
      g.rest,
      g.state,
      g.is_slice,
      g.about.world.replay,
      subst (λ (o : Option GoalName). (a : Answer) → In a c.args.answers.now → IsCallOf g.slice g.state o a.goal) c.target_of-target.ensures q.0,
      subst (λ (o : Option GoalName). HasTooLongTold w g.slice g.state o c.args.answers.now) c.target_of-target.ensures q.1,
    )
