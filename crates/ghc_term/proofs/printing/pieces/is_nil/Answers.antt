use Rattle.std.proofs.Common.{◌≡◌, true, false, ◌∙◌}
use Rattle.ghc_term.proofs.Texts.{lent_nil}
use Rattle.ghc_term.proofs.printing.pieces.is_nil.Goals as goal

pub returns-in_default : goal.returns-in_default
returns-in_default c = (
  λ h. absurd (let clash : false ≡ true = h in cc),
  λ e. absurd (lent_nil c.view.result c.view.ensures.arguments c.in_default.not-Atom (c.view.ensures.shown ∙ e)),
)
