use Rattle.std.proofs.Common.{◌≡◌}
use Rattle.ghc_shared.proofs.tests.passes.Hands.are_taken.Given as goal

abbrev pub invariant-loop-place : goal.invariant-loop-place
invariant-loop-place g l = l.me.number ≡ l.initial.me.number
