use Rattle.ghc_term.proofs.Words.{◌∙◌, goal_cmp}
use Rattle.ghc_term.proofs.Indexed.{value_is}
use Rattle.ghc_term.proofs.GoalNames.{goal_total, goal_antisymmetric, same, same_is}
use Rattle.ghc_term.proofs.Slots.{none_in}
use Rattle.ghc_term.proofs.table.goal_places.other.Goals as goal

pub returns-then-is_empty : goal.returns-then-is_empty
returns-then-is_empty c = none_in goal_cmp c.args.others.now.entries c.args.name (c.is_empty.ensures.0 c.if-is_empty.true)

pub returns : goal.returns
returns c = c.copied.ensures ∙ c.get.ensures.value ∙ value_is goal_total goal_antisymmetric same same_is c.args.name c.args.others.now.entries
