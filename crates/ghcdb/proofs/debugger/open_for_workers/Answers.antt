use Rattle.ghcdb.proofs.OpenedFor.{opened_for}
use Rattle.ghcdb.proofs.debugger.open_for_workers.Goals as goal

pub returns-in-Ok-clause-answer : goal.returns-in-Ok-clause-answer
returns-in-Ok-clause-answer c = (opened_for _ _ _ c.in-Ok.debugger c.with_workers.result c.with_workers.ensures.core c.with_workers.ensures.spies c.with_workers.ensures.lines c.in-Ok.ensures.answer.0, tt)
