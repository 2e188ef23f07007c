use Rattle.ghc_pool.specs.Runs.{starved}
use Rattle.ghc_pool.proofs.runs.pause.pause.Goals as goal

pub returns-in_default-clause-stop : goal.returns-in_default-clause-stop
returns-in_default-clause-stop c limit taken = starved tt

pub returns-in_default-clause-kept : goal.returns-in_default-clause-kept
returns-in_default-clause-kept c = c.in_default.ensures.refused.1.kept

pub returns-in-Err-clause-stop : goal.returns-in-Err-clause-stop
returns-in-Err-clause-stop c limit taken = starved tt

pub returns-in-Err-clause-kept : goal.returns-in-Err-clause-kept
returns-in-Err-clause-kept c = rw c.sort_goals.ensures.stays.notes c.in-Ok.ensures.noted.kept
