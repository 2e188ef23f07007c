use Rattle.ghc_term.proofs.Words.{◌≡◌, sym, ap, ◌∙◌, arith, option_or, values_in, values_of, first_at}
use Rattle.std.specs.FinMap as finite
use Rattle.ghc_term.proofs.Names.{name_total, name_antisymmetric}
use Rattle.ghc_term.proofs.Slots.{removed_listed, removed_unlisted, removed_alone, none_gone, or_none, value_unlisted}
use Rattle.ghc_term.proofs.VariableMaps.{firsts, first_is, far, value_first}
use Rattle.ghc_term.proofs.table.variable_map.VariableMap.remove.Goals as goal

pub returns-then-x-ne1-clause-value : goal.returns-then-x-ne1-clause-value
returns-then-x-ne1-clause-value g c =
    let i = c.self.inside in
    c.remove_other.ensures.value ∙ sym (value_unlisted firsts i.firsts.items i.others.entries c.args.x (far i.firsts.items c.args.x c.if-x-ne1.true))
    ∙ ap (λ t. finite.get t.held c.args.x) c.self.view_is

pub returns-then-x-ne1-clause-held : goal.returns-then-x-ne1-clause-held
returns-then-x-ne1-clause-held g c =
    let i = c.self.inside in
    removed_unlisted firsts i.firsts.items i.others.entries c.args.x _ (far i.firsts.items c.args.x c.if-x-ne1.true) c.remove_other.ensures.held
    ∙ ap (λ t. finite.remove t.held c.args.x) c.self.view_is

pub invariant_of-self : goal.invariant_of-self
invariant_of-self g c = (
  λ none. none_gone name_total name_antisymmetric (λ y. y.place ≡ 1) _ _ c.args.x c.remove_other.ensures.held (c.self.invariant.0 none),
  omega (arith, c.remove_other.ensures.room, c.self.invariant.1),
)

pub returns-then-self-clause-value : goal.returns-then-self-clause-value
returns-then-self-clause-value g c =
    let i = c.self.inside in
    c.or.ensures ∙ ap (option_or c.take_first.result) c.remove_other-hidden.ensures.value ∙ ap (λ o. option_or o (finite.get (values_in i.others.entries) c.args.x)) c.take_first.ensures.value
    ∙ sym (value_first i.firsts.items i.others.entries c.args.x c.if-x-ne1.false) ∙ ap (λ t. finite.get t.held c.args.x) c.self.view_is

pub returns-then-self-clause-held : goal.returns-then-self-clause-held
returns-then-self-clause-held g c =
    let i = c.self.inside in
    let es = c.remove_other-hidden.new.others.entries in
    ap (λ l. values_of l es) c.take_first.ensures.values
    ∙ removed_listed firsts i.firsts.items i.others.entries c.args.x c.args.x.step (first_is c.args.x c.if-x-ne1.false) es c.remove_other-hidden.ensures.held
    ∙ ap (λ t. finite.remove t.held c.args.x) c.self.view_is

pub returns-clause-value : goal.returns-clause-value
returns-clause-value g c =
    let i = c.self.inside in
    let none = c.self.invariant.0 c.if-self.false c.args.x c.if-x-ne1.false in
    c.take_first-2.ensures.value ∙ sym (or_none (first_at i.firsts.items c.args.x.step)) ∙ ap (option_or (first_at i.firsts.items c.args.x.step)) (sym none)
    ∙ sym (value_first i.firsts.items i.others.entries c.args.x c.if-x-ne1.false) ∙ ap (λ t. finite.get t.held c.args.x) c.self.view_is

pub returns-clause-held : goal.returns-clause-held
returns-clause-held g c =
    let i = c.self.inside in
    ap (λ l. values_of l i.others.entries) c.take_first-2.ensures.values
    ∙ removed_alone firsts i.firsts.items i.others.entries c.args.x c.args.x.step (first_is c.args.x c.if-x-ne1.false)
    (c.self.invariant.0 c.if-self.false c.args.x c.if-x-ne1.false)
    ∙ ap (λ t. finite.remove t.held c.args.x) c.self.view_is
