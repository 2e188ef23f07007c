use Rattle.ghc_pool.proofs.Words.{sym, ap, ◌∙◌, status_of, NotesByGoal}
use Rattle.std.specs.FinMap as finite
use Rattle.ghc_pool.proofs.Noting.{noted_waiting}
use Rattle.ghc_pool.proofs.runs.meet.is_noted_waiting.Goals as goal

pub returns-in-Some : goal.returns-in-Some
returns-in-Some c =
    let there = ap (λ (m : NotesByGoal). finite.get m c.args.goal) (sym c.tries.ensures.notes) ∙ sym c.in-Some.ensures in
    noted_waiting c.args.core.now.notes c.args.goal c.in-Some.note.now there (status_of c.verdict.result.now) c.verdict.ensures c.is_waiting.result c.is_waiting.ensures
