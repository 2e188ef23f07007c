use Rattle.ghc_pool.proofs.Words.{◌≡◌, ◌++◌, ◌-◌, [], length, take, HasRoomToOffer, Keeps, KeepsRoom, IsOfferedOrStopped}
use Rattle.ghc_pool.proofs.rounds.worker.Worker.offer_all.Given as goal

abbrev pub invariant-loop-name : goal.invariant-loop-name
invariant-loop-name l =
    Keeps [] [] l.initial.self l.self × KeepsRoom l.initial.self l.self × (l.self.taken ≡ l.initial.self.taken) × IsOfferedOrStopped l.initial.self l.self
    × (l.self.offered.items ≡ l.initial.self.offered.items ++ take l.name-index l.names) × HasRoomToOffer (length l.names - l.name-index) l.self
