-- What may go to another thread.
use denote.RattleType.{RattleType}
use denote.Param.Send.{IsSend, IsSync, sendable, view_send, view_sync}
use denote.Param.SendFields.{declared_send, declared_sync, as_row_send, as_row_sync}
use denote.Struct.Field.{row_field}
use Rattle.std.proofs.Crossing.{crosses}
use Rattle.std.specs.declared.sync.ledger.Ledger as ledger
use Rattle.atomic_table.proofs.shared.Seat.TheSendSync as seat
use Rattle.std.proofs.sync.ledger.Share.TheSendSync as share
use Rattle.std.proofs.sync.ledger.Book.TheSendSync as book
use Rattle.std.proofs.sync.RwLock.TheSendSync as lock
use Rattle.atomic_table.proofs.owned.Table.TheSendSync as table
use Rattle.ghc_shared.proofs.exclusive.Exclusive.TheSendSync as ex
use Rattle.std.specs.contracts.option.Option as option
use Rattle.std.specs.contracts.snapshot.Snapshot as Snap
use Rattle.ghc_shared.specs.contracts.knowledge.Knowledge as knowledge
use denote.Struct.Tuple as tuple
use denote.Builtin.{u64}
use mathlib.Core.List.{[], ◌∷◌}
use Rattle.ghc_shared.specs.declared.growing.Growing as growing
use Rattle.ghc_shared.specs.declared.naming.Naming as naming
use Rattle.ghc_shared.specs.contracts.pass.Pass as pass
use Rattle.ghc_shared.specs.contracts.shared.Shared as shared
use Rattle.ghc_shared.specs.contracts.locked.Held as held
use Rattle.ghc_shared.specs.contracts.locked.Locked as locked
use Rattle.ghc_shared.specs.contracts.locked.Locked.TheInside as locked_inside
use Rattle.ghc_shared.specs.contracts.pass.Pass.TheInside as inside

note_send : (C : RattleType) → IsSend (tuple.Tuple (u64 ∷ Snap.the_row C ∷ []))
note_send C = search (sendable, crosses) depth 60 fits 20000

pub pass_send : (C N E A R : RattleType) (g : growing.Ghosts C.Denot E.Denot A.Denot R.Denot) (n : naming.Ghosts N.Denot) (l : ledger.Ghosts N.Denot) → IsSend (pass.the_row C N E A R g n l)
pass_send C N E A R g n l = view_send _ _ _ _ _ (declared_send (inside.the_type C N E A R g n l) (seat.the_send (tuple.Tuple (u64 ∷ Snap.the_row C ∷ [])) (knowledge.the_row E) (note_send C), (share.the_send N l, (search sendable, (search (crosses, sendable) depth 60 fits 20000, (search sendable, tt))))))

held_send : (C N E A R : RattleType) (l : ledger.Ghosts N.Denot) → IsSend (held.the_row C N E A R l)
held_send C N E A R l = declared_send (held.the_type C N E A R l) (seat.the_send (tuple.Tuple (u64 ∷ Snap.the_row C ∷ [])) (knowledge.the_row E) (note_send C), (book.the_send N l, tt))

module _ (C N E A R : RattleType) (g : growing.Ghosts C.Denot E.Denot A.Denot R.Denot) (n : naming.Ghosts N.Denot) (l : ledger.Ghosts N.Denot) where
  option_send : IsSend (option.the_row (held.the_row C N E A R l))
  option_send = search (sendable, held_send) depth 60 fits 20000

  locked_send : IsSend C → IsSend (locked.the_row C N E A R g n l)
  locked_send s = view_send _ _ _ _ _ (declared_send (locked_inside.the_type C N E A R g n l) (as_row_send (row_field C) s, (ex.the_send _ option_send, tt)))

  locked_sync : IsSync C → IsSync (locked.the_row C N E A R g n l)
  locked_sync y = view_sync _ _ _ _ _ (declared_sync (locked_inside.the_type C N E A R g n l) (as_row_sync (row_field C) y, (ex.the_sync _ option_send, tt)))

  pub shared_sync : IsSend C → IsSync C → IsSync (shared.the_row C N E A R n g l)
  shared_sync s y = declared_sync (shared.the_type C N E A R n g l) (search (crosses, sendable, table.the_sync, note_send) depth 60 fits 20000, (lock.the_sync (locked.the_row C N E A R g n l) (locked_send s) (locked_sync y), (ex.the_sync _ (share.the_send N l), tt)))
