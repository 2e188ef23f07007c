use Rattle.std.proofs.Common.{Ok}
use Rattle.ghc_records.proofs.ExactTexts.{exact}
use Rattle.ghc_records.proofs.text.history_laws.read_history_is_exact.Goals as goal

pub returns : goal.returns
returns c = exact (λ text u other h k. (c.read_ground_term_is_exact.ensures text (Ok u) (h, tt)).gives other k)
