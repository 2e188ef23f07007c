use Rattle.ghc_term.proofs.Indexed.{inserted, done}
use Rattle.ghc_term.proofs.Entries.{same, same_is}
use Rattle.ghc_term.proofs.Names.{name_total, name_antisymmetric}
use Rattle.ghc_term.proofs.table.variable_map.put_other.Goals as goal

pub returns-clause-held : goal.returns-clause-held
returns-clause-held g c =
    inserted name_total name_antisymmetric same same_is c.args.others.now.entries c.insert.new.self.entries c.args.x c.args.value (done c.insert.result (c.insert.ensures.succeeds c.requires) c.insert.ensures.updates).0
