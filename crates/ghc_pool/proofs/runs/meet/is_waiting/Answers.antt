use Rattle.ghc_pool.proofs.Words.{refl, ap, status_of}
use Rattle.ghc_pool.proofs.runs.meet.is_waiting.Goals as goal

pub returns-in-Waiting : goal.returns-in-Waiting
returns-in-Waiting c = (λ holds. (c.in-Waiting.field-0, ap status_of c.in-Waiting.is), λ k. refl)
