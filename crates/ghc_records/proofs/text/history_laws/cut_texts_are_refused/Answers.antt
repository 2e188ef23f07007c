use Rattle.ghc_records.proofs.Words.{subst, TellsHistory}
use Rattle.ghc_records.proofs.CutTexts.{refused}
use Rattle.ghc_records.proofs.text.history_laws.cut_texts_are_refused.Goals as goal

pub returns : goal.returns
returns c text front back h told cut some = refused front back h some (subst (λ l. TellsHistory l h) cut told)
