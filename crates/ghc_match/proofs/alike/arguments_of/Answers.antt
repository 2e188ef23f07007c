use Rattle.ghc_match.proofs.Words.{ap, ◌∙◌, arguments}
use Rattle.ghc_match.proofs.Positions.{back_again}
use Rattle.ghc_match.proofs.alike.arguments_of.Goals as goal

pub returns-in-Struct : goal.returns-in-Struct
returns-in-Struct c = back_again c.in-Struct.arguments.now ∙ ap arguments c.in-Struct.ensures.shown
