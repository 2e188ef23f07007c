use Rattle.ghc_trace.proofs.Words.{◌≡◌, ◌∙◌, List, Option, sym, ap, subst, GoalName, In, Record, Replays, Err, Fault}
use Rattle.ghc_trace.specs.inner.BlameLinesCode.{IsToldSlice}
use Rattle.ghc_trace.proofs.BlameSlices.{about_slice, slice_known}
use Rattle.ghc_trace.proofs.BlameTold.{kept_number}
use Rattle.ghc_trace.proofs.blaming.told_behind.Goals as goal

pub store_after-requires : goal.store_after-requires
store_after-requires c n i =
    let w = c.args.core.now.world in
    let b = c.in-Ok.ensures.slice in
    let known = slice_known w c.stands.ensures.replay c.stands.ensures.orderly.acyclic c.args.subject b.0 b.1 b.2 in
    let q = kept_number w.kept b.0 c.in-Ok.steps.items (record { within = known.1.within; numbered = b.3 }) n (subst (In n) c.as_slice.ensures.value i) in
    (q.0, (subst (λ (l : List Record). In q.0 l) (sym c.records-records.ensures) q.1.0, q.1.1))

pub calls_of-requires : goal.calls_of-requires
calls_of-requires c n i =
    let w = c.args.core.now.world in
    let b = c.in-Ok.ensures.slice in
    let known = slice_known w c.stands.ensures.replay c.stands.ensures.orderly.acyclic c.args.subject b.0 b.1 b.2 in
    let q = kept_number w.kept b.0 c.in-Ok.steps.items (record { within = known.1.within; numbered = b.3 }) n (subst (In n) c.as_slice-2.ensures.value i) in
    (q.0, (subst (λ (l : List Record). In q.0 l) (sym c.records-records.ensures) q.1.0, q.1.1))

pub returns-in-Err-clause-no_place : goal.returns-in-Err-clause-no_place
returns-in-Err-clause-no_place c e = let same : c.in-Err.fault ≡ Fault.NoVariable = cc in c.steps_behind.ensures.no_place (c.in-Err.is ∙ ap Err same)

pub returns-clause-told : goal.returns-clause-told
returns-clause-told c =
    let w = c.args.core.now.world in
    let b = c.in-Ok.ensures.slice in
    let steps = c.in-Ok.steps.items in
    let known = slice_known w c.stands.ensures.replay c.stands.ensures.orderly.acyclic c.args.subject b.0 b.1 b.2 in
    let target = c.target_of-target.result in
    let k = known.1 in
    let within = subst (λ (l : List Record). (r : Record) → In r b.0 → In r l) (sym c.records-records.ensures) k.within in
    let left =
    c.in_ok-store.ensures w.opening.program w.opening.query b.0 w.state known.0 (subst (λ (l : List Record). Replays w.opening.program w.opening.query l w.state) (sym c.records-records.ensures) c.stands.ensures.replay)
    (sym c.store.ensures) (record { within = within; numbered = b.3 ∙ sym c.as_slice.ensures.value }) k.replays in
    let calls =
    c.in_ok-calls.ensures w.opening.program w.opening.query b.0 known.0 target (record { within = within; numbered = b.3 ∙ sym c.as_slice-2.ensures.value }) k.replays
    (c.asked_about.ensures known.0 (λ g e. let there = k.there g (sym c.target_of-target.ensures ∙ e) in there.2 ∙ sym there.1)) in
    let about =
    about_slice w steps c.in_ok-store.store.held c.in_ok-calls.calls.list.items target c.args.subject b.0 known.0 c.stands.ensures.replay c.target_of-target.ensures k b.3 left calls in
    record {
      slice = b.0;
      rest = b.1;
      state = known.0;
      is_slice = b.2;
      is_there = b.4;
      about = subst (λ (o : Option GoalName). IsToldSlice w steps c.in_ok-store.store.held c.in_ok-calls.calls.list.items o b.0 known.0) c.target_of-target.ensures about;
    }
