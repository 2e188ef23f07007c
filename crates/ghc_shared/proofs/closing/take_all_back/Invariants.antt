use Rattle.ghc_shared.proofs.Words.{◌≡◌, ◌+◌, length, drop, All, IsStrictlyIncreasing, AreAllByTheirs, weight_of_places}
use mathlib.Core.List.{IsPrefix}
use Rattle.ghc_shared.proofs.closing.take_all_back.Given as goal

abbrev pub invariant-loop-pass : goal.invariant-loop-pass
invariant-loop-pass g l = (l.seat.table_id ≡ g.N.Naming.table) × (l.seat.me ≡ l.initial.seat.me) × (l.rest.parts ≡ l.initial.rest.parts + length l.yielded) × (l.rest.amount ≡ l.initial.rest.amount + weight_of_places (λ _. 1) l.yielded)
    × All (λ p. IsPrefix p.front (g.C.Growing.history l.value)) l.yielded × All (λ p. IsStrictlyIncreasing p.places) l.yielded × AreAllByTheirs g.N.Naming.base (drop g.N.Naming.base l.initial.seat.me.0.seen) l.yielded
