use Rattle.ghc_fire.proofs.Words.{reverse, ◌↔◌, VarName, value_at, leaf_variables, leaves, parts}
use Rattle.ghc_fire.proofs.Gathered.{Gathers}
use Rattle.ghc_fire.proofs.expression_reads.add_chains.Given as goal

abbrev pub invariant-loop-part : goal.invariant-loop-part
invariant-loop-part l =
    (x : VarName) → Gathers (value_at l.store.held) l.reads (leaves (reverse l.waiting.items)) x ↔ Gathers (value_at l.store.held) l.initial.reads (leaf_variables l.expression) x

abbrev pub decreases-loop-part : goal.decreases-loop-part
decreases-loop-part l = parts (reverse l.waiting.items)
