use Rattle.ghc_trace.proofs.Words.{◌≡◌, ◌++◌, ℕ, List, take, string_bytes, StartsWith, Record, State}
use Rattle.ghc_trace.specs.BlameLines.{AreAskedGoals, only}
use Rattle.ghc_trace.specs.inner.BlameLinesCode.{IsAbout}
use Rattle.ghc_trace.proofs.verdict_lines.write_all_asked.Given as goal

abbrev pub invariant-loop-number : goal.invariant-loop-number
invariant-loop-number l = record {
  lines : (rs : List Record) (t : State) → IsAbout l.told rs t
      → (text : List ℕ) × AreAskedGoals (only l.told.core.now.world rs t) l.told.target (take l.number-index rs) text × (string_bytes l.out ≡ string_bytes l.fn.out ++ text);
  begun : StartsWith (string_bytes l.out) (string_bytes l.fn.out);
}
