use Rattle.ghc_hooks.proofs.FaceIsOne.{face_once}
use Rattle.ghc_hooks.proofs.laws.face_is_one.Goals as goal

pub returns : goal.returns
returns c = face_once
