use Rattle.std.proofs.Common.{refl}
use Rattle.ghc_records.proofs.ChronicleTold.{begins}
use Rattle.ghc_records.proofs.text.chronicle_reading.is_chronicle.Goals as goal

pub returns-in-Some : goal.returns-in-Some
returns-in-Some c = (λ _. begins c.args.text.now c.in-Some._rest.now c.in-Some.ensures.some, λ _. refl)

pub returns-in-None : goal.returns-in-None
returns-in-None c = (λ clash. cc, λ h. absurd (c.in-None.ensures.none h))
