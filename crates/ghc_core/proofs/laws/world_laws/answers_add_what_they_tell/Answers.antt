use Rattle.ghc_core.proofs.Telling.{answers_add}
use Rattle.ghc_core.proofs.laws.world_laws.answers_add_what_they_tell.Goals as goal

pub returns : goal.returns
returns c = answers_add
