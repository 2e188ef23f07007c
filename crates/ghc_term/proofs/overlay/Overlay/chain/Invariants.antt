use Rattle.ghc_term.proofs.Words.{List, ◌+◌, ◌++◌, Tree, Leads, VarName, value_in}
use Rattle.std.specs.FinMap as finite
use Rattle.ghc_term.proofs.Total.{walk}
use Rattle.ghc_term.proofs.Merged.{all_bound}
use Rattle.ghc_term.proofs.overlay.Overlay.chain.Given as goal

abbrev pub invariant-loop-x : goal.invariant-loop-x
invariant-loop-x l =
    (xs : List VarName) (e : Tree) → Leads (value_in l.self) l.end xs e → Leads (value_in l.self) l.fn.term (l.passed.items ++ xs) e

abbrev pub decreases-loop-x : goal.decreases-loop-x
decreases-loop-x l = walk (finite.len (all_bound l.self) + 1) (all_bound l.self) l.end
