use Rattle.ghc_trace.proofs.Words.{◌≡◌, ◌++◌, ℕ, List, take, string_bytes, StartsWith}
use Rattle.ghc_trace.specs.PartLines.{AreMadeLines}
use Rattle.ghc_trace.proofs.part_lines.write_all_made.Given as goal

abbrev pub invariant-loop-index : goal.invariant-loop-index
invariant-loop-index l = record {
  lines : (text : List ℕ) × AreMadeLines l.core.world l.step.number (take l.index l.step.effect.makes) text × (string_bytes l.out ≡ string_bytes l.fn.out ++ text);
  begun : StartsWith (string_bytes l.out) (string_bytes l.fn.out);
}
