use denote.Param.Send.{sendable}
use Rattle.std.proofs.Crossing.{crosses}
use Rattle.ghc_core.proofs.Crosses.{core_send, core_sync}
use Rattle.std.proofs.alloc.Global.TheSendSync as global
use Rattle.std.proofs.sync.RwLock.TheSendSync as lock
use Rattle.ghc_tests.proofs.tests.cores.is_read_twice.Goals as goal

pub spawn-requires-send-F : goal.spawn-requires-send-F
spawn-requires-send-F g c κs within = search (core_send, core_sync, lock.the_send, lock.the_sync, global.the_send, crosses, sendable) depth 60 fits 20000
