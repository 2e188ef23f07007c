use Rattle.ghc_records.proofs.Words.{subst, TellsChronicle}
use Rattle.ghc_records.proofs.CutChronicles.{chronicle_refused}
use Rattle.ghc_records.proofs.text.chronicle_laws.cut_chronicles_are_refused.Goals as goal

pub returns : goal.returns
returns c text front back x told cut some = chronicle_refused front back x some (subst (λ l. TellsChronicle l x) cut told)
