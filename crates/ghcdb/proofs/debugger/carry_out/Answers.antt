use Rattle.ghcdb.proofs.CitedWords.{refl}
use Rattle.ghcdb.specs.inner.Running.{not_opened, opened}
use Rattle.ghcdb.proofs.debugger.carry_out.Goals as goal

pub returns-in-Err : goal.returns-in-Err
returns-in-Err g c = not_opened c.in-Err.refusal c.in-Err.ensures.answer.1 refl refl

pub returns-in-Ok : goal.returns-in-Ok
returns-in-Ok g c = opened c.in-Ok.debugger c.in-Ok.ensures.answer.0 c.in-Ok.ensures.workers c.run_or_play.ensures
