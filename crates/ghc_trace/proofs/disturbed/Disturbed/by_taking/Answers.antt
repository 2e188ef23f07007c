use Rattle.ghc_trace.proofs.Words.{◌⊎◌, [], subst, MakesGoal, Binds, LooksWhere, Gathers}
use Rattle.ghc_trace.proofs.Gathering.{gathers_both}
use Rattle.ghc_trace.proofs.Disturbing.{gathered_disturbed}
use Rattle.ghc_trace.proofs.disturbed.Disturbed.by_taking.Goals as goal

pub returns : goal.returns
returns c =
    let notes = c.args.tries.now.notes in
    let r = c.args.step.now in
    let made : Gathers notes (λ g. LooksWhere notes (Binds r) g ⊎ MakesGoal r g) [] c.add_made.new.self.goals.items =
    subst (λ es. Gathers notes (λ g. LooksWhere notes (Binds r) g ⊎ MakesGoal r g) es c.add_made.new.self.goals.items) c.new-gathered.ensures
    (gathers_both notes (LooksWhere notes (Binds r)) (MakesGoal r) (λ g. LooksWhere notes (Binds r) g ⊎ MakesGoal r g) c.new-gathered.result.goals.items c.add_looking.new.self.goals.items c.add_made.new.self.goals.items (λ g. (λ h. h, λ h. h)) c.in_ok-add_looking.ensures c.in_ok-add_made.ensures) in
    gathered_disturbed notes (Binds r) (MakesGoal r) c.add_made.new.self.goals.items c.of.result made c.of.ensures.members c.of.ensures.gathered
