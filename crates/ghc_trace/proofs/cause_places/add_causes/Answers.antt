use Rattle.ghc_trace.proofs.Words.{◌≡◌, ap, ◌∙◌, subst, AreDistinct, numbers, variables_asked}
use Rattle.std.specs.FinSet as set
use Rattle.ghc_records.specs.Uses.{MakesVariable}
use Rattle.ghc_trace.specs.Causes.{HasInFront}
use Rattle.ghc_trace.proofs.CausePlaces.{OfGoal, OfOne, all_causes, on_ok}
use Rattle.ghc_trace.proofs.cause_places.add_causes.Goals as goal

pub returns : goal.returns
returns c = on_ok c.add_makers.result c.add_makers.ensures (λ h.
    let ss = c.args.records.now.slots in
    let place = c.args.place in
    let b = c.args.step.now in
    let old = c.args.places.now.keys in
    let first = c.add_goal_maker.new.places.keys in
    let second = c.add_binders.new.places.keys in
    let new = c.add_makers.new.places.keys in
    let distinct = subst (λ l. AreDistinct (numbers l)) c.len-count.ensures.slots c.len-count.ensures.distinct in
    let all : set.from_list c.members.result.now ≡ b.effect.reads = c.members.ensures.all ∙ c.reads.ensures ∙ ap (λ f. f.reads) c.effect.ensures in
    all_causes ss place distinct b c.requires c.members.result.now old first second new all
    (subst (λ o. HasInFront ss place (OfGoal ss place o) old first) c.goal.ensures c.in_ok-add_goal_maker.ensures) c.in_ok-add_binders.ensures
    (subst (λ l. HasInFront ss place (OfOne ss place MakesVariable l) second new) (c.variables.ensures ∙ ap variables_asked c.act.ensures) h))
