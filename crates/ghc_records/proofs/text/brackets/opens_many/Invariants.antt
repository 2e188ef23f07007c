use Rattle.ghc_records.proofs.Words.{◌≤◌}
use Rattle.ghc_records.proofs.OpenBytes.{IsLeft}
use Rattle.ghc_records.proofs.text.brackets.opens_many.Given as goal

abbrev pub invariant-loop-byte : goal.invariant-loop-byte
invariant-loop-byte l = record {
  few : l.depth ≤ 1000;
  left : IsLeft l.text l.byte-index l.depth;
}
