use Rattle.ghc_reader.proofs.Words.{sym, ap, ◌∙◌, is_variable, view}
use Rattle.ghc_reader.proofs.Misplaced.{list_is_no_variable}
use Rattle.ghc_reader.proofs.reserved.+is_variable.Goals as goal

pub returns-else-is_empty : goal.returns-else-is_empty
returns-else-is_empty t c = c.if-is_empty.false ∙ sym (ap (λ u. is_variable (view u)) c.in-List.is ∙ list_is_no_variable c.in-List.items c.in-List.tail c.if-is_empty.ensures)
