use Rattle.ghc_records.proofs.Words.{◌≡◌, drop, pieces_of}
use Rattle.ghc_records.proofs.text.history_lines.skip_lines.Given as goal

abbrev pub invariant-loop-index : goal.invariant-loop-index
invariant-loop-index l = drop l._index (pieces_of l.text) ≡ pieces_of l.rest
