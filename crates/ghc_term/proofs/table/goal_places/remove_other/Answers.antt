use Rattle.ghc_term.proofs.Words.{◌∙◌, goal_cmp}
use Rattle.ghc_term.proofs.Indexed.{value_is, removed}
use Rattle.ghc_term.proofs.GoalNames.{goal_total, goal_antisymmetric, same, same_is}
use Rattle.ghc_term.proofs.Slots.{none_in, none_fewer}
use Rattle.ghc_term.proofs.table.goal_places.remove_other.Goals as goal

pub returns-then-is_empty-clause-value : goal.returns-then-is_empty-clause-value
returns-then-is_empty-clause-value c = none_in goal_cmp c.args.others.now.entries c.args.name (c.is_empty.ensures.0 c.if-is_empty.true)

pub returns-then-is_empty-clause-held : goal.returns-then-is_empty-clause-held
returns-then-is_empty-clause-held c = none_fewer goal_total goal_antisymmetric c.args.others.now.entries c.args.name (c.is_empty.ensures.0 c.if-is_empty.true)

pub returns-clause-value : goal.returns-clause-value
returns-clause-value c = c.swap_remove.ensures.value ∙ value_is goal_total goal_antisymmetric same same_is c.args.name c.args.others.now.entries

pub returns-clause-held : goal.returns-clause-held
returns-clause-held c = removed goal_total goal_antisymmetric same same_is c.args.others.now.entries c.swap_remove.new.self.entries c.args.name c.swap_remove.ensures.updates.0
