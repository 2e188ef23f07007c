use Rattle.ghc_reader.proofs.Words.{◌≡◌, ℕ, ◌≤◌, List, false, take, bytes_eq, list_any, is_unnamed, variables}
use Rattle.ghc_reader.proofs.limits.variables.count.Given as goal

abbrev pub invariant-loop-name : goal.invariant-loop-name
invariant-loop-name l = record {
  counted : l.count ≡ variables (take l.name-index l.names);
  few : l.count ≤ l.name-index;
  known : (v : List ℕ) → is_unnamed v ≡ false → list_any (bytes_eq v) l.named.keys ≡ list_any (bytes_eq v) (take l.name-index l.names);
}
