-- A shared core may be shared by threads, and its passes may go to others.
use denote.RattleType.{RattleType}
use denote.Param.Send.{IsSend, IsSync}
use Rattle.std.specs.declared.sync.ledger.Ledger as ledger
use Rattle.ghc_shared.proofs.Words.{core_send, core_sync, ghosts}
use Rattle.ghc_core.specs.contracts.core_state.Core as core
use Rattle.ghc_core.specs.contracts.reply.Reply as reply
use Rattle.ghc_shared.specs.declared.naming.Naming as naming
use Rattle.ghc_shared.specs.contracts.calls.Call as call
use Rattle.ghc_shared.specs.contracts.calls.HistoryItem as item
use Rattle.ghc_shared.specs.contracts.shared.Shared as shared
use Rattle.ghc_shared.specs.contracts.pass.Pass as pass
use Rattle.ghc_shared.proofs.Crosses.{shared_sync, pass_send}

module _ (N : RattleType) (n : naming.Ghosts N.Denot) (l : ledger.Ghosts N.Denot) where
  pub shared_core_sync : IsSync (shared.the_row core.the_row N item.the_row call.the_row reply.the_row n ghosts l)
  shared_core_sync = shared_sync core.the_row N item.the_row call.the_row reply.the_row ghosts n l core_send core_sync

  pub core_pass_send : IsSend (pass.the_row core.the_row N item.the_row call.the_row reply.the_row ghosts n l)
  core_pass_send = pass_send core.the_row N item.the_row call.the_row reply.the_row ghosts n l
