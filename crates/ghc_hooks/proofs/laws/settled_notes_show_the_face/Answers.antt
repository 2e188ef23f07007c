use Rattle.ghc_hooks.proofs.NotedFaces.{settled_notes}
use Rattle.ghc_hooks.proofs.laws.settled_notes_show_the_face.Goals as goal

pub returns : goal.returns
returns c = settled_notes
