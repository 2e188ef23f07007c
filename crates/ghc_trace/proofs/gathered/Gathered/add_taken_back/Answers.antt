use Rattle.ghc_trace.proofs.Words.{◌≡◌, sym, ap, ◌∙◌, inl, inr, rules, Some, None, Binds, LooksWhere}
use Rattle.ghc_trace.proofs.Gathering.{gathers_one, gathers_both, gathers_alike}
use Rattle.ghc_trace.proofs.Disturbing.{IsOf, one_name, no_name}
use Rattle.ghc_trace.proofs.gathered.Gathered.add_taken_back.Goals as goal

pub returns-in_ok-add : goal.returns-in_ok-add
returns-in_ok-add c =
    let notes = c.args.tries.now.notes in
    let r = c.args.step.now in
    let h = c.in-Some.goal in
    let named : r.goal ≡ Some h = sym c.goal.ensures ∙ c.in-Some.is in
    gathers_both notes (LooksWhere notes (Binds r)) (λ g. g ≡ h) (IsOf notes r) c.args.self.now.goals.items c.add_looking.new.self.goals.items c.add.new.self.goals.items
    (λ g. (λ k. elim k [ inl l ↦ inl l | inr same ↦ inr (named ∙ ap Some (sym same)) ], λ k. elim k [ inl l ↦ inl l | inr e ↦ inr (one_name (sym e ∙ named)) ]))
    c.in_ok-add_looking.ensures
    (gathers_one notes c.add_looking.new.self.goals.items c.add.new.self.goals.items h c.in_ok-add.ensures)

pub returns-in_default : goal.returns-in_default
returns-in_default c =
    let notes = c.args.tries.now.notes in
    let r = c.args.step.now in
    let named : r.goal ≡ None = search rules in
    gathers_alike notes (LooksWhere notes (Binds r)) (IsOf notes r) c.args.self.now.goals.items c.add_looking.new.self.goals.items
    (λ g. (λ l. inl l, λ k. elim k [ inl l ↦ l | inr e ↦ absurd (no_name (sym named ∙ e)) ]))
    c.in_ok-add_looking.ensures
