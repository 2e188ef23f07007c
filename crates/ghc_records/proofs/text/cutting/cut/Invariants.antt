use Rattle.std.proofs.Common.{◌≢◌, All, take}
use Rattle.ghc_records.proofs.text.cutting.cut.Given as goal

abbrev pub invariant-loop-place : goal.invariant-loop-place
invariant-loop-place l = All (λ b. b ≢ l.mark) (take l.place l.bytes)
