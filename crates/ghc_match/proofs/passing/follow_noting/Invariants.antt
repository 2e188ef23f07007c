use Rattle.ghc_match.proofs.Words.{◌+◌, ◌⊎◌, IsTrue, ◌↔◌, value_at, Tree, Passes, VarName, walk, ChainEnds}
use Rattle.std.specs.FinMap as finite
use Rattle.std.specs.FinSet as set
use Rattle.ghc_match.proofs.passing.follow_noting.Given as goal

abbrev pub invariant-loop-x : goal.invariant-loop-x
invariant-loop-x l = record {
  ends : (e : Tree) → ChainEnds (value_at l.store.held) l.place e → ChainEnds (value_at l.store.held) l.fn.term e;
  looks : (x : VarName) → (IsTrue (set.contains l.looked x) ⊎ Passes (value_at l.store.held) l.place x) ↔ (IsTrue (set.contains l.initial.looked x) ⊎ Passes (value_at l.store.held) l.fn.term x);
}

abbrev pub decreases-loop-x : goal.decreases-loop-x
decreases-loop-x l = walk (finite.len l.store.held + 1) l.store.held l.place
