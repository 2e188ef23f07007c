use Rattle.std.proofs.Common.{◌∙◌}
use Rattle.ghc_term.proofs.Indexed.{value_is}
use Rattle.ghc_term.proofs.Entries.{same, same_is}
use Rattle.ghc_term.proofs.Names.{name_total, name_antisymmetric}
use Rattle.ghc_term.proofs.VariableMaps.{none_in}
use Rattle.ghc_term.proofs.table.variable_map.other.Goals as goal

pub returns-then-is_empty : goal.returns-then-is_empty
returns-then-is_empty g c = none_in c.args.others.now.entries c.args.x (c.is_empty.ensures.0 c.if-is_empty.true)

pub returns : goal.returns
returns g c = c.get.ensures.value ∙ value_is name_total name_antisymmetric same same_is c.args.x c.args.others.now.entries
