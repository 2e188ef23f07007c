use Rattle.ghc_term.proofs.Words.{sym, ap, ◌∙◌, option_or, numbers_in, number_at}
use Rattle.std.specs.FinMap as finite
use Rattle.ghc_term.proofs.Slots.{value_near, value_unlisted}
use Rattle.ghc_term.proofs.GoalPlaces.{listing, far, near_is}
use Rattle.ghc_term.proofs.table.goal_places.GoalPlaces.get.Goals as goal

pub returns-in_default : goal.returns-in_default
returns-in_default c =
    let i = c.self.inside in
    c.other.ensures ∙ sym (value_unlisted listing i.near.items i.others.entries c.args.name (far i.near.items c.args.name c.in_default.ensures.none))
    ∙ ap (λ t. finite.get t.held c.args.name) c.self.view_is

pub returns-in-Some-number : goal.returns-in-Some-number
returns-in-Some-number c =
    let i = c.self.inside in
    let s = c.in-Some.slot in
    ap (λ o. option_or o (finite.get (numbers_in i.others.entries) c.args.name)) (c.in-Some-number.ensures ∙ ap (λ l. number_at l s) c.deref.ensures.value)
    ∙ sym (value_near listing i.near.items i.others.entries s c.args.name c.in-Some.ensures.some) ∙ ap (λ t. finite.get t.held c.args.name) c.self.view_is

pub returns-then-not-self : goal.returns-then-not-self
returns-then-not-self c =
    let i = c.self.inside in
    let s = c.in-Some.slot in
    sym (c.self.invariant c.if-not-self.true c.args.name (near_is s c.args.name c.in-Some.ensures.some))
    ∙ ap (λ o. option_or o (finite.get (numbers_in i.others.entries) c.args.name)) (c.in-None.ensures ∙ ap (λ l. number_at l s) c.deref.ensures.value)
    ∙ sym (value_near listing i.near.items i.others.entries s c.args.name c.in-Some.ensures.some) ∙ ap (λ t. finite.get t.held c.args.name) c.self.view_is

pub returns-else-not-self : goal.returns-else-not-self
returns-else-not-self c =
    let i = c.self.inside in
    let s = c.in-Some.slot in
    c.other-in-None.ensures ∙ ap (λ o. option_or o (finite.get (numbers_in i.others.entries) c.args.name)) (c.in-None.ensures ∙ ap (λ l. number_at l s) c.deref.ensures.value)
    ∙ sym (value_near listing i.near.items i.others.entries s c.args.name c.in-Some.ensures.some) ∙ ap (λ t. finite.get t.held c.args.name) c.self.view_is
