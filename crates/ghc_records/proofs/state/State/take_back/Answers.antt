use Rattle.ghc_records.proofs.Words.{rules, ◌≡◌, length, sym, subst, StateTables, with_goal, without_makes, GoalsTakenBack}
use Rattle.ghc_records.proofs.TakenBack.{goals_back}
use Rattle.ghc_records.proofs.state.State.take_back.Goals as goal

pub returns-clause-state : goal.returns-clause-state
returns-clause-state c =
    let r = c.args.removal in
    let m = c.self.inside.goals.held in
    let left : c.unmake_goals.new.goals.held ≡ without_makes r.number (length r.effect.makes) (with_goal r.goal r.consumed m) = search rules in
    record {
      goals = subst (λ (t : StateTables). GoalsTakenBack r t.held.goals c.unmake_goals.new.goals.held) c.self.view_is (subst (GoalsTakenBack r m) (sym left) (goals_back r m));
      store = search rules;
    }
