use Rattle.ghc_term.proofs.Words.{sym, ap, ◌∙◌, option_or, numbers_in, numbers_of, number_at, IsNear}
use Rattle.std.specs.FinMap as finite
use Rattle.ghc_term.proofs.GoalNames.{goal_total, goal_antisymmetric}
use Rattle.ghc_term.proofs.Slots.{removed_listed, removed_unlisted, removed_alone, none_gone, or_none, value_near, value_unlisted}
use Rattle.ghc_term.proofs.GoalPlaces.{listing, far, near_is}
use Rattle.ghc_term.proofs.table.goal_places.GoalPlaces.remove.Goals as goal

pub invariant_of-self : goal.invariant_of-self
invariant_of-self c none = none_gone goal_total goal_antisymmetric IsNear _ _ c.args.name c.remove_other.ensures.held (c.self.invariant none)

pub returns-in_default-clause-value : goal.returns-in_default-clause-value
returns-in_default-clause-value c =
    let i = c.self.inside in
    c.remove_other.ensures.value ∙ sym (value_unlisted listing i.near.items i.others.entries c.args.name (far i.near.items c.args.name c.in_default.ensures.none))
    ∙ ap (λ t. finite.get t.held c.args.name) c.self.view_is

pub returns-in_default-clause-held : goal.returns-in_default-clause-held
returns-in_default-clause-held c =
    let i = c.self.inside in
    removed_unlisted listing i.near.items i.others.entries c.args.name _ (far i.near.items c.args.name c.in_default.ensures.none) c.remove_other.ensures.held
    ∙ ap (λ t. finite.remove t.held c.args.name) c.self.view_is

pub returns-then-self-clause-value : goal.returns-then-self-clause-value
returns-then-self-clause-value c =
    let i = c.self.inside in
    c.or.ensures ∙ ap (option_or c.take_number.result) c.remove_other-hidden.ensures.value ∙ ap (λ o. option_or o (finite.get (numbers_in i.others.entries) c.args.name)) c.take_number.ensures.number
    ∙ sym (value_near listing i.near.items i.others.entries c.in-Some.slot c.args.name c.in-Some.ensures.some)
    ∙ ap (λ t. finite.get t.held c.args.name) c.self.view_is

pub returns-then-self-clause-held : goal.returns-then-self-clause-held
returns-then-self-clause-held c =
    let i = c.self.inside in
    let es = c.remove_other-hidden.new.others.entries in
    ap (λ l. numbers_of l es) c.take_number.ensures.numbers
    ∙ removed_listed listing i.near.items i.others.entries c.args.name c.in-Some.slot c.in-Some.ensures.some es c.remove_other-hidden.ensures.held
    ∙ ap (λ t. finite.remove t.held c.args.name) c.self.view_is

pub returns-clause-value : goal.returns-clause-value
returns-clause-value c =
    let i = c.self.inside in
    let s = c.in-Some.slot in
    let none = c.self.invariant c.if-self.false c.args.name (near_is s c.args.name c.in-Some.ensures.some) in
    c.take_number-2.ensures.number ∙ sym (or_none (number_at i.near.items s)) ∙ ap (option_or (number_at i.near.items s)) (sym none)
    ∙ sym (value_near listing i.near.items i.others.entries s c.args.name c.in-Some.ensures.some) ∙ ap (λ t. finite.get t.held c.args.name) c.self.view_is

pub returns-clause-held : goal.returns-clause-held
returns-clause-held c =
    let i = c.self.inside in
    let s = c.in-Some.slot in
    let none = c.self.invariant c.if-self.false c.args.name (near_is s c.args.name c.in-Some.ensures.some) in
    ap (λ l. numbers_of l i.others.entries) c.take_number-2.ensures.numbers
    ∙ removed_alone listing i.near.items i.others.entries c.args.name s c.in-Some.ensures.some none
    ∙ ap (λ t. finite.remove t.held c.args.name) c.self.view_is
