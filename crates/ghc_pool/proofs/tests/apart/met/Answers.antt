use mir.Syntax.{named}
use denote.RattleType.{RattleType}
use denote.Ref.{NamedLft}
use denote.Param.{param}
use denote.Param.Send.{IsSync, sendable}
use denote.Param.SendFields.{declared_sync}
use Rattle.std.proofs.sync.atomic.AtomicU64.TheSendSync as word
use Rattle.std.specs.declared.sync.ledger.Ledger as ledger
use Rattle.ghc_shared.specs.declared.naming.Naming as naming
use Rattle.ghc_pool.proofs.Words.{crosses, core_pass_send, works}
use Rattle.ghc_pool.proofs.Crosses.{deciding_sync}
use Rattle.ghc_pool.proofs.Telling.{told_all}
use Rattle.ghc_pool.specs.contracts.tests.apart.Meeting as meeting
use Rattle.ghc_pool.specs.contracts.tests.unifications.Open as gate
use Rattle.ghc_pool.proofs.tests.apart.met.Goals as goal

gate_sync : IsSync gate.the_row
gate_sync = search (crosses, sendable) depth 60 fits 20000

meeting_sync : (a : NamedLft) (N R : RattleType) (n : naming.Ghosts N.Denot) (l : ledger.Ghosts N.Denot) → IsSync R → IsSync (meeting.the_row a N R n l)
meeting_sync a N R n l y = declared_sync (meeting.the_type a N R n l) (deciding_sync a N R gate.the_row n l y gate_sync, (word.the_sync, (word.the_sync, tt)))

pub work_together-requires-send-P : goal.work_together-requires-send-P
work_together-requires-send-P g c κs within = search (crosses, sendable, core_pass_send) depth 60 fits 20000

pub work_together-requires-sync-C : goal.work_together-requires-sync-C
work_together-requires-sync-C g c κs within = record { shared = (meeting_sync (record { mir = named 3; lft = κs.1.1.1.1.0 }) (param 0 g.row.N) (param 1 g.row.R) g.N.Naming g.N.Ledger c.type_bounds.sync-R).shared }

pub close-requires-clause-all : goal.close-requires-clause-all
close-requires-clause-all g c = told_all g.N.Naming.opened _ _ _ g.N.Naming.passes 0 c.in-Ok.passes.items (works c.in-Ok-work_together.ended.workers.items) c.in-Ok-work_together.passes.items c.in-Ok-work_together.ensures.tells c.in-Ok.ensures.all
