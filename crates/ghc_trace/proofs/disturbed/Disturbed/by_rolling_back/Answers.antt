use Rattle.ghc_trace.proofs.Words.{◌≡◌, ◌+◌, [], ◌∷◌, ◌++◌, take, sym, ap, subst, ◌∙◌, take_more, take_all, Record, IsBoundIn, IsConsumedIn, all_gone, Gathers}
use Rattle.ghc_trace.proofs.Gathering.{gathers_both, gathers_alike}
use Rattle.ghc_trace.proofs.Disturbing.{IsOf, IsOfOneOf, of_one, of_one_more, gathered_disturbed}
use Rattle.ghc_trace.proofs.disturbed.Disturbed.by_rolling_back.Goals as goal

pub loop-removal-init : goal.loop-removal-init
loop-removal-init c =
    let first = c.parts.result.0.now in
    let notes = c.args.tries.now.notes in
    let new = c.add_taken_back.new.self.goals.items in (
      first,
      (λ i. sym c.parts.ensures.first i ∷ sym c.parts.ensures.others i),
      gathers_alike notes (IsOf notes first) (IsOfOneOf notes (first ∷ [])) [] new (of_one notes first)
          (subst (λ es. Gathers notes (IsOf notes first) es new) c.new-gathered.ensures (subst (λ (r : Record). Gathers notes (IsOf notes r) c.new-gathered.result.goals.items new) c.step.ensures c.in_ok-add_taken_back.ensures)),
    )

pub loop-removal-preserved : goal.loop-removal-preserved
loop-removal-preserved c =
    let notes = c.args.tries.now.notes in
    let others = c.parts.result.1.now in
    let i = c.loop-removal.removal-index in
    let first = c.loop-removal.invariant.0 in
    let r = c.step-in-loop-removal.result.now in
    let now = c.loop-removal.gathered.goals.items in
    let new = c.add_taken_back-in-loop-removal.new.self.goals.items in
    let same : r ≡ _ = c.step-in-loop-removal.ensures ∙ c.removal-item.is in
    let more : take i others ++ r ∷ [] ≡ take (i + 1) others = ap (λ (q : Record). take i others ++ q ∷ []) same ∙ sym (take_more others i c.removal-item.result c.loop-removal-test.true) in (
      first,
      c.loop-removal.invariant.1,
      subst (λ gone. Gathers notes (IsOfOneOf notes (first ∷ gone)) [] new) more
          (gathers_both notes (IsOfOneOf notes (first ∷ take i others)) (IsOf notes r) (IsOfOneOf notes (first ∷ take i others ++ r ∷ [])) [] now new (of_one_more notes (first ∷ take i others) r) c.loop-removal.invariant.2 c.in_ok-add_taken_back-2.ensures),
    )

pub returns : goal.returns
returns c =
    let notes = c.args.tries.now.notes in
    let others = c.parts.result.1.now in
    let first = c.loop-removal.invariant.0 in
    let new = c.loop-removal.gathered.goals.items in
    let all : first ∷ take c.loop-removal.removal-index others ≡ all_gone c.args.rollback.now = ap (λ gone. first ∷ gone) (take_all c.loop-removal.removal-index others c.loop-removal-test.false) ∙ sym c.loop-removal.invariant.1 in
    gathered_disturbed notes (IsBoundIn (all_gone c.args.rollback.now)) (IsConsumedIn (all_gone c.args.rollback.now)) new c.of.result
    (subst (λ gone. Gathers notes (IsOfOneOf notes gone) [] new) all c.loop-removal.invariant.2) c.of.ensures.members c.of.ensures.gathered
