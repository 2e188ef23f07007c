use Rattle.ghc_pool.proofs.Words.{arith, crosses, core_pass_send, works}
use mir.Syntax.{named}
use denote.Param.{param}
use denote.Param.Send.{sendable}
use Rattle.ghc_pool.proofs.Crosses.{deciding_sync}
use Rattle.ghc_pool.proofs.Drained.{length-works}
use Rattle.ghc_pool.proofs.Telling.{told_count, few_made}
use Rattle.ghc_pool.proofs.rounds.round.round.Goals as goal

pub work_together-requires-send-P : goal.work_together-requires-send-P
work_together-requires-send-P g c κs within = search (crosses, sendable, core_pass_send) depth 60 fits 20000

pub work_together-requires-sync-C : goal.work_together-requires-sync-C
work_together-requires-sync-C g c κs within = record { shared = (deciding_sync (record { mir = named 3; lft = κs.1.1.1.1.0 }) (param 0 g.row.N) (param 1 g.row.R) (param 2 g.row.G) g.N.Naming g.N.Ledger c.type_bounds.sync-R c.type_bounds.sync-G).shared }

pub report_of-requires : goal.report_of-requires
report_of-requires g c =
    let ended = c.in-Ok-work_together.ended in
    let workers = ended.1.workers in
    let passes = c.args.passes in
    let count = told_count _ passes.items (works workers.items) ended.0.items c.in-Ok-work_together.ensures.tells in
    record { room = (c.in-Ok.ensures.items, omega (arith, c.in-Ok.ensures.capacity, c.len.ensures, count, length-works workers.items, workers.ok.0, passes.ok.0)) }

pub returns-in-Ok-work_together-clause-made : goal.returns-in-Ok-work_together-clause-made
returns-in-Ok-work_together-clause-made g c =
    let ended = c.in-Ok-work_together.ended in
    let is = c.in-Ok-work_together.ensures in
    omega (arith, few_made _ _ _ _ c.args.passes.items (works ended.1.workers.items) ended.0.items is.tells, is.few, c.limit-limit.ensures)
