-- What the threads share may be shared.
use denote.RattleType.{RattleType}
use denote.Ref.{NamedLft, ShrRef}
use denote.Struct.Field.{row_field}
use denote.Param.Send.{IsSync, sendable, shr_sync}
use denote.Param.SendFields.{declared_sync, as_row_sync}
use Rattle.ghc_shared.proofs.Words.{crosses, ghosts}
use Rattle.std.specs.declared.sync.ledger.Ledger as ledger
use Rattle.std.proofs.sync.atomic.AtomicU64.TheSendSync as word
use Rattle.ghc_core.specs.contracts.core_state.Core as core
use Rattle.ghc_core.specs.contracts.reply.Reply as reply
use Rattle.ghc_shared.specs.declared.naming.Naming as naming
use Rattle.ghc_shared.specs.contracts.calls.Call as call
use Rattle.ghc_shared.specs.contracts.calls.HistoryItem as item
use Rattle.ghc_shared.specs.contracts.shared.Shared as shared
use Rattle.ghc_shared.proofs.CoreCrosses.{shared_core_sync}
use Rattle.ghc_shared.proofs.tests.passes.Task.TheSendSync as task
use Rattle.ghc_shared.specs.contracts.tests.passes.Hands as hands

pub hands_sync : (a : NamedLft) (N R : RattleType) (n : naming.Ghosts N.Denot) (l : ledger.Ghosts N.Denot) → IsSync R → IsSync (hands.the_row a N R n l)
hands_sync a N R n l y = declared_sync (hands.the_type a N R n l)
    (as_row_sync (row_field (ShrRef a.mir a.lft R)) (shr_sync a.mir a.lft R y), (search (crosses, sendable) depth 60 fits 20000, (shr_sync a.mir a.lft (shared.the_row core.the_row N item.the_row call.the_row reply.the_row n ghosts l) (shared_core_sync N n l), (task.the_sync, (word.the_sync, tt)))))
