use Rattle.std.proofs.Common.{◌∙◌}
use Rattle.ghc_term.proofs.Indexed.{value_is, removed}
use Rattle.ghc_term.proofs.Entries.{same, same_is}
use Rattle.ghc_term.proofs.Names.{name_total, name_antisymmetric}
use Rattle.ghc_term.proofs.Slots.{none_fewer}
use Rattle.ghc_term.proofs.VariableMaps.{none_in}
use Rattle.ghc_term.proofs.table.variable_map.remove_other.Goals as goal

pub returns-then-is_empty-clause-value : goal.returns-then-is_empty-clause-value
returns-then-is_empty-clause-value g c = none_in c.args.others.now.entries c.args.x (c.is_empty.ensures.0 c.if-is_empty.true)

pub returns-then-is_empty-clause-held : goal.returns-then-is_empty-clause-held
returns-then-is_empty-clause-held g c = none_fewer name_total name_antisymmetric c.args.others.now.entries c.args.x (c.is_empty.ensures.0 c.if-is_empty.true)

pub returns-clause-value : goal.returns-clause-value
returns-clause-value g c = c.swap_remove.ensures.value ∙ value_is name_total name_antisymmetric same same_is c.args.x c.args.others.now.entries

pub returns-clause-held : goal.returns-clause-held
returns-clause-held g c = removed name_total name_antisymmetric same same_is c.args.others.now.entries c.swap_remove.new.self.entries c.args.x c.swap_remove.ensures.updates.0
