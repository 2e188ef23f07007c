use Rattle.ghc_term.proofs.Words.{sym, ap, ◌∙◌, option_or, values_in, first_at}
use Rattle.std.specs.FinMap as finite
use Rattle.ghc_term.proofs.Slots.{value_unlisted}
use Rattle.ghc_term.proofs.VariableMaps.{firsts, far, value_first}
use Rattle.ghc_term.proofs.table.variable_map.VariableMap.get.Goals as goal

pub returns-then-x-ne1 : goal.returns-then-x-ne1
returns-then-x-ne1 g c =
    let i = c.self.inside in
    c.other.ensures ∙ sym (value_unlisted firsts i.firsts.items i.others.entries c.args.x (far i.firsts.items c.args.x c.if-x-ne1.true))
    ∙ ap (λ t. finite.get t.held c.args.x) c.self.view_is

pub returns-in-Some : goal.returns-in-Some
returns-in-Some g c =
    let i = c.self.inside in
    ap (λ o. option_or o (finite.get (values_in i.others.entries) c.args.x)) (c.in-Some.ensures ∙ ap (λ l. first_at l c.args.x.step) c.deref.ensures.value)
    ∙ sym (value_first i.firsts.items i.others.entries c.args.x c.if-x-ne1.false) ∙ ap (λ t. finite.get t.held c.args.x) c.self.view_is

pub returns-then-not-self : goal.returns-then-not-self
returns-then-not-self g c =
    let i = c.self.inside in
    sym (c.self.invariant.0 c.if-not-self.true c.args.x c.if-x-ne1.false)
    ∙ ap (λ o. option_or o (finite.get (values_in i.others.entries) c.args.x)) (c.in-None.ensures ∙ ap (λ l. first_at l c.args.x.step) c.deref.ensures.value)
    ∙ sym (value_first i.firsts.items i.others.entries c.args.x c.if-x-ne1.false) ∙ ap (λ t. finite.get t.held c.args.x) c.self.view_is

pub returns-else-not-self : goal.returns-else-not-self
returns-else-not-self g c =
    let i = c.self.inside in
    c.other-in-None.ensures ∙ ap (λ o. option_or o (finite.get (values_in i.others.entries) c.args.x)) (c.in-None.ensures ∙ ap (λ l. first_at l c.args.x.step) c.deref.ensures.value)
    ∙ sym (value_first i.firsts.items i.others.entries c.args.x c.if-x-ne1.false) ∙ ap (λ t. finite.get t.held c.args.x) c.self.view_is
