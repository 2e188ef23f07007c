-- What the workers of a round share may be shared.
use denote.RattleType.{RattleType}
use denote.Ref.{NamedLft, ShrRef}
use denote.Struct.Field.{row_field}
use denote.Param.Send.{IsSync, sendable, shr_sync}
use denote.Param.SendFields.{declared_sync, as_row_sync}
use Rattle.ghc_pool.proofs.Words.{crosses, ghosts, shared_core_sync}
use Rattle.std.proofs.MapsCrossing as maps
use Rattle.std.proofs.MapsCrossingOver as over
use Rattle.std.specs.declared.sync.ledger.Ledger as ledger
use Rattle.ghc_core.specs.contracts.core_state.Core as core
use Rattle.ghc_core.specs.contracts.reply.Reply as reply
use Rattle.ghc_shared.specs.declared.naming.Naming as naming
use Rattle.ghc_shared.specs.contracts.calls.Call as call
use Rattle.ghc_shared.specs.contracts.calls.HistoryItem as item
use Rattle.ghc_shared.specs.contracts.shared.Shared as shared
use Rattle.ghc_trace.specs.contracts.spies.SpySet as spies
use Rattle.ghc_pool.specs.contracts.deciding.Deciding as deciding
use Rattle.ghc_pool.proofs.manner.Manner.TheSendSync as manner
use Rattle.ghc_pool.specs.contracts.scope.Scope as scope

spies_sync : IsSync spies.the_row
spies_sync = search (maps.crosses, crosses, sendable) depth 60 fits 20000

scope_sync : IsSync scope.the_row
scope_sync = search (over.crosses, crosses, sendable) depth 60 fits 20000

pub deciding_sync : (a : NamedLft) (N R G : RattleType) (n : naming.Ghosts N.Denot) (l : ledger.Ghosts N.Denot) → IsSync R → IsSync G → IsSync (deciding.the_row a N R G n l)
deciding_sync a N R G n l y z = declared_sync (deciding.the_type a N R G n l)
    (as_row_sync (row_field (ShrRef a.mir a.lft R)) (shr_sync a.mir a.lft R y), (search (crosses, sendable) depth 60 fits 20000, (shr_sync a.mir a.lft (shared.the_row core.the_row N item.the_row call.the_row reply.the_row n ghosts l) (shared_core_sync N n l), (shr_sync a.mir a.lft scope.the_row scope_sync, (shr_sync a.mir a.lft spies.the_row spies_sync, (as_row_sync (row_field (ShrRef a.mir a.lft G)) (shr_sync a.mir a.lft G z), (search (crosses, sendable) depth 60 fits 20000, (manner.the_sync, tt))))))))
