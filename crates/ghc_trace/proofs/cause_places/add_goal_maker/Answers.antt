use Rattle.ghc_trace.proofs.Words.{sym, subst}
use Rattle.ghc_records.specs.Uses.{MakesGoal}
use Rattle.ghc_trace.specs.Causes.{HasInFront}
use Rattle.ghc_trace.proofs.CausePlaces.{OfGoal, has_found, of_goal, of_no_goal, on_ok}
use Rattle.ghc_trace.proofs.cause_places.add_goal_maker.Goals as goal

pub returns-in-Some : goal.returns-in-Some
returns-in-Some c = on_ok c.add_in_front.result c.add_in_front.ensures (λ h.
    let ss = c.args.records.now.slots in
    let place = c.args.place in
    let old = c.args.places.now.keys in
    let new = c.add_in_front.new.places.keys in
    subst (λ o. HasInFront ss place (OfGoal ss place o) old new) (sym c.in-Some.is)
    (of_goal ss place c.in-Some.name old new (has_found ss place (λ a. MakesGoal a c.in-Some.name) c.place_of_goal_maker.result old new c.place_of_goal_maker.ensures h)))

pub returns-in-None : goal.returns-in-None
returns-in-None c =
    let ss = c.args.records.now.slots in
    let old = c.args.places.now.keys in
    subst (λ o. HasInFront ss c.args.place (OfGoal ss c.args.place o) old old) (sym c.in-None.is) (of_no_goal ss c.args.place old)
