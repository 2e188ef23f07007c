use Rattle.ghc_reader.proofs.Words.{◌≡◌, ◌-◌, ◌≤◌, length, take, true, list_all, goes_on}
use Rattle.ghc_reader.proofs.lexer.run.split_run.Given as goal

abbrev pub invariant-loop-end : goal.invariant-loop-end
invariant-loop-end l = record {
  in_range : l.end ≤ length l.text;
  each : list_all (goes_on l.run) (take l.end l.text) ≡ true;
}

abbrev pub decreases-loop-end : goal.decreases-loop-end
decreases-loop-end l = length l.text - l.end
