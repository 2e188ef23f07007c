use Rattle.ghcdb.proofs.CitedWords.{inr}
use Rattle.ghcdb.proofs.debugger.run.Goals as goal

pub returns-in-Ok : goal.returns-in-Ok
returns-in-Ok g c = inr (record {
  given = c.in-Ok.given;
  processors = c.processors_for-processors.result;
  is_given = c.in-Ok.ensures;
  counted = c.processors_for-processors.ensures;
  debugs = c.debug.ensures;
})
