use Rattle.ghc_term.proofs.Words.{refl}
use Rattle.std.specs.FinMap as finite
use Rattle.ghc_term.proofs.Resolving.{each_itself}
use Rattle.ghc_term.proofs.printing.write_written.Goals as goal

pub returns-in-Ok-clause-text : goal.returns-in-Ok-clause-text
returns-in-Ok-clause-text c = c.in-Ok.ensures.text (λ t. t) (each_itself finite.empty refl)
