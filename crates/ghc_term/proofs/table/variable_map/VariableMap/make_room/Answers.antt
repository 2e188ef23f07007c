use Rattle.ghc_term.proofs.Words.{ap, ◌∙◌, values_of}
use Rattle.ghc_term.proofs.Slots.{same_values}
use Rattle.ghc_term.proofs.VariableMaps.{firsts}
use Rattle.ghc_term.proofs.table.variable_map.VariableMap.make_room.Goals as goal

pub returns-in_err-grow-clause-held : goal.returns-in_err-grow-clause-held
returns-in_err-grow-clause-held g c =
    let i = c.self.inside in
    same_values firsts i.firsts.items c.grow.new.firsts.items i.others.entries c.grow.ensures ∙ ap (λ t. t.held) c.self.view_is

pub returns-then-count-self-clause-held : goal.returns-then-count-self-clause-held
returns-then-count-self-clause-held g c =
    let i = c.self.inside in
    same_values firsts i.firsts.items c.grow.new.firsts.items i.others.entries c.grow.ensures ∙ ap (λ t. t.held) c.self.view_is

pub returns-in_err-reserve-clause-held : goal.returns-in_err-reserve-clause-held
returns-in_err-reserve-clause-held g c =
    let i = c.self.inside in
    ap (values_of c.grow.new.firsts.items) c.reserve.ensures.entries ∙ same_values firsts i.firsts.items c.grow.new.firsts.items i.others.entries c.grow.ensures
    ∙ ap (λ t. t.held) c.self.view_is

pub returns-clause-held : goal.returns-clause-held
returns-clause-held g c =
    let i = c.self.inside in
    ap (values_of c.grow.new.firsts.items) c.reserve.ensures.entries ∙ same_values firsts i.firsts.items c.grow.new.firsts.items i.others.entries c.grow.ensures
    ∙ ap (λ t. t.held) c.self.view_is
