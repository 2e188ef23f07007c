use Rattle.ghc_records.proofs.Words.{◌≡◌, ◌≤◌, length}
use Rattle.ghc_records.proofs.records.Records.index_all.Given as goal

abbrev pub invariant-loop : goal.invariant-loop
invariant-loop l =
    (l.self.held ≡ l.initial.self.held) × (l.self.slots ≡ l.initial.self.slots) × (l.self.room ≡ l.initial.self.room) × (l.self.indexed ≡ l.counter) × (l.counter ≤ l.end) × (l.end ≡ length l.initial.self.slots)
