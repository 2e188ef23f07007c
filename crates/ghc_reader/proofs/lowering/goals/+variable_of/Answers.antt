use Rattle.ghc_reader.proofs.Words.{sym, ap, ◌∙◌, view, variable_of}
use Rattle.ghc_reader.proofs.GoalsLowered.{list_has_no_variable}
use Rattle.ghc_reader.proofs.lowering.goals.+variable_of.Goals as goal

pub returns-else-is_empty : goal.returns-else-is_empty
returns-else-is_empty t c = sym (ap (λ u. variable_of (view u)) c.in-List.is ∙ list_has_no_variable c.in-List.elements c.in-List.tail c.if-is_empty.ensures)
