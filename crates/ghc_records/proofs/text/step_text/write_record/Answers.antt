use Rattle.ghc_records.proofs.Words.{arith, string_bytes, common_steps}
use Rattle.ghc_term.proofs.Pieces.{through}
use Rattle.ghc_records.proofs.text.step_text.write_record.Goals as goal

pub returns-clause-begun : goal.returns-clause-begun
returns-clause-begun c = through _ (string_bytes c.push_str-3.new.self) _ (grind (arith, common_steps)) c.write_makes.ensures.begun
