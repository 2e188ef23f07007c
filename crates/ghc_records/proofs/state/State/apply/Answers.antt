use Rattle.ghc_records.proofs.Words.{◌≡◌, sym, ap, ◌∙◌, subst, IsAcyclic, StoreValue, value_at, with_binds, Goals, State, with_makes, without_goal, after, StateTables, goals_of}
use Rattle.std.specs.FinMap as finite
use Rattle.ghc_records.proofs.state.State.apply.Goals as goal

-- a state of equal parts
same_state : (g h : Goals) (s t : StoreValue) → g ≡ h → s ≡ t → ◌≡◌ {A = State} (record { goals = g; store = s }) (record { goals = h; store = t })
same_state g h s t p q i = record { goals = p i; store = q i }

pub bind_all-requires-clause-acyclic : goal.bind_all-requires-clause-acyclic
bind_all-requires-clause-acyclic c =
    let acyclic = subst (λ (t : StateTables). IsAcyclic (value_at (after t.held c.args.step.now).store)) (sym c.self.view_is) c.requires.acyclic in
    subst (λ m. IsAcyclic (value_at (with_binds (finite.entries m) c.self.inside.store.held))) (sym c.requires.binds) acyclic

pub returns : goal.returns
returns c =
    let r = c.args.step.now in
    let goals : c.make_goals.new.goals.held ≡ with_makes r.number 1 r.effect.makes (without_goal r.goal c.self.inside.goals.held) =
    c.make_goals.ensures ∙ ap (λ n. with_makes n 1 (goals_of c.args.makes) c.consume_goal.new.goals.held) c.number.ensures
    ∙ ap (λ l. with_makes r.number 1 l c.consume_goal.new.goals.held) c.requires.makes
    ∙ ap (with_makes r.number 1 r.effect.makes) (c.consume_goal.ensures.held ∙ ap (λ o. without_goal o c.self.inside.goals.held) c.goal.ensures) in
    let store = c.bind_all.ensures ∙ ap (λ m. with_binds (finite.entries m) c.self.inside.store.held) c.requires.binds in
    same_state _ _ _ _ goals store ∙ ap (λ (t : StateTables). after t.held r) c.self.view_is
