use Rattle.ghc_pool.proofs.Words.{sym, ap, ◌∙◌, status_of, NotesByGoal}
use Rattle.std.specs.FinMap as finite
use Rattle.ghc_pool.proofs.Noting.{noted_ready}
use Rattle.ghc_pool.proofs.runs.meet.is_noted_ready.Goals as goal

pub returns-in-Some : goal.returns-in-Some
returns-in-Some c =
    let there = ap (λ (m : NotesByGoal). finite.get m c.args.goal) (sym c.tries.ensures.notes) ∙ sym c.in-Some.ensures in
    noted_ready c.args.core.now.notes c.args.goal c.in-Some.note.now there (status_of c.verdict.result.now) c.verdict.ensures c.is_ready.result c.is_ready.ensures
