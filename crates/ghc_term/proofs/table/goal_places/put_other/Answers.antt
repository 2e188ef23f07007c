use Rattle.ghc_term.proofs.Indexed.{inserted, done}
use Rattle.ghc_term.proofs.GoalNames.{goal_total, goal_antisymmetric, same, same_is}
use Rattle.ghc_term.proofs.table.goal_places.put_other.Goals as goal

pub returns-clause-held : goal.returns-clause-held
returns-clause-held c =
    inserted goal_total goal_antisymmetric same same_is c.args.others.now.entries c.insert.new.self.entries c.args.name c.args.number (done c.insert.result (c.insert.ensures.succeeds c.requires) c.insert.ensures.updates).0
