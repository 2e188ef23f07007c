use Rattle.ghc_reader.proofs.Words.{◌≡◌, ℕ, ◌≤◌, take, open_after}
use Rattle.ghc_reader.proofs.depth.is_deeper_than.Given as goal

abbrev pub invariant-loop-token : goal.invariant-loop-token
invariant-loop-token l = record {
  depth_is : l.depth ≡ open_after 0 (take l.token-index l.tokens);
  shallow : (k : ℕ) → k ≤ l.token-index → open_after 0 (take k l.tokens) ≤ l.most;
}
