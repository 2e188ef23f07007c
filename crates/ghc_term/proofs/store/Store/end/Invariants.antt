use Rattle.ghc_term.proofs.Words.{List, ◌+◌, value_at, Tree, Leads, VarName}
use Rattle.std.specs.FinMap as finite
use Rattle.ghc_term.proofs.Total.{walk}
use Rattle.ghc_term.proofs.store.Store.end.Given as goal

abbrev pub invariant-loop-x : goal.invariant-loop-x
invariant-loop-x l = (xs : List VarName) (e : Tree) → Leads (value_at l.self.held) l.place xs e → (ys : List VarName) × Leads (value_at l.self.held) l.fn.term ys e

abbrev pub decreases-loop-x : goal.decreases-loop-x
decreases-loop-x l = walk (finite.len l.self.held + 1) l.self.held l.place
