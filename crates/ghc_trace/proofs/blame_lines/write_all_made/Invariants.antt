use Rattle.ghc_trace.proofs.Words.{◌≡◌, ◌++◌, ℕ, List, take, string_bytes, StartsWith, Record, State}
use Rattle.ghc_trace.specs.BlameLines.{AreMadeGoals, only}
use Rattle.ghc_trace.specs.inner.BlameLinesCode.{AreGoalsOf, IsAbout}
use Rattle.ghc_trace.proofs.blame_lines.write_all_made.Given as goal

abbrev pub invariant-loop-index : goal.invariant-loop-index
invariant-loop-index l = record {
  lines : (rs : List Record) (t : State) → IsAbout l.told rs t → AreGoalsOf l.told.core.now.world.opening.query rs l.step l.goals
      → (text : List ℕ) × AreMadeGoals (only l.told.core.now.world rs t) l.told.target l.step (take l.index l.goals) text × (string_bytes l.out ≡ string_bytes l.fn.out ++ text);
  begun : StartsWith (string_bytes l.out) (string_bytes l.fn.out);
}
