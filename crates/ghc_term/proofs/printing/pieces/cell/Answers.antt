use Rattle.std.proofs.Common.{◌∙◌}
use Rattle.ghc_term.proofs.Texts.{lent_cell}
use Rattle.ghc_term.proofs.printing.pieces.cell.Goals as goal

pub returns-in_default : goal.returns-in_default
returns-in_default c t u e = lent_cell c.view.result c.in_default.not-Struct t u (c.view.ensures.shown ∙ e)
