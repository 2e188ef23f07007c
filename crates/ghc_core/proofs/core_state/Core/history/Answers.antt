use Rattle.ghc_core.proofs.Words.{◌≡◌, ◌≤◌, Bool, true, false, inr, refl, List, length, map, sym, subst, kept_limit, Step, step_of, Core, AskForGoals}
use Rattle.ghc_term.proofs.ListsLemmas.{not_both}
use Rattle.ghc_core.proofs.SavedSteps.{saved_form}
use Rattle.ghc_core.proofs.core_state.Core.history.Goals as goal

-- where none was found that asks for goals, none does
none_asks : (inside core : Core) (found : Bool) → inside ≡ core → (AskForGoals inside.world.kept → found ≡ true) → found ≡ false → ¬ AskForGoals core.world.kept
none_asks inside core found same told unfound asks = not_both found unfound (told (subst (λ (x : Core). AskForGoals x.world.kept) (sym same) asks))

pub returns-then-ask_for_goals-clause-fault : goal.returns-then-ask_for_goals-clause-fault
returns-then-ask_for_goals-clause-fault c = inr (refl, subst (λ (x : Core). AskForGoals x.world.kept) c.self.view_is (c.ask_for_goals.ensures.0 c.if-ask_for_goals.true))

pub returns-in_err-steps-clause-asked : goal.returns-in_err-steps-clause-asked
returns-in_err-steps-clause-asked c asks =
    absurd (not_both c.ask_for_goals.result c.if-ask_for_goals.false (c.ask_for_goals.ensures.1 (subst (λ (x : Core). AskForGoals x.world.kept) (sym c.self.view_is) asks)))

pub new-requires : goal.new-requires
new-requires c =
    let none : ¬ AskForGoals c.args.self.now.world.kept = λ asks. not_both c.ask_for_goals.result c.if-ask_for_goals.false (c.ask_for_goals.ensures.1 (subst (λ (x : Core). AskForGoals x.world.kept) (sym c.self.view_is) asks)) in
    subst (λ (l : List Step). length l ≤ kept_limit) (sym c.in_ok-steps.ensures)
    (subst (λ (x : Core). length (map step_of x.world.kept) ≤ kept_limit) (sym c.self.view_is) (saved_form c.args.self.now.world c.stands.ensures.standing none).few)

pub returns-clause-form : goal.returns-clause-form
returns-clause-form c =
    saved_form c.args.self.now.world c.stands.ensures.standing (none_asks _ _ c.ask_for_goals.result c.self.view_is c.ask_for_goals.ensures.1 c.if-ask_for_goals.false)

pub returns-clause-asked : goal.returns-clause-asked
returns-clause-asked c asks = absurd (none_asks _ _ c.ask_for_goals.result c.self.view_is c.ask_for_goals.ensures.1 c.if-ask_for_goals.false asks)

pub returns-in_err-new-clause-asked : goal.returns-in_err-new-clause-asked
returns-in_err-new-clause-asked c asks = absurd (none_asks _ _ c.ask_for_goals.result c.self.view_is c.ask_for_goals.ensures.1 c.if-ask_for_goals.false asks)
