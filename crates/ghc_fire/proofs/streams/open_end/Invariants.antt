use Rattle.ghc_fire.proofs.Words.{◌≡◌, ◌+◌, List, VarName, variable, Comes, value_at, walk}
use Rattle.std.specs.FinMap as finite
use Rattle.std.specs.FinSet as set
use Rattle.ghc_fire.proofs.streams.open_end.Given as goal

abbrev pub invariant-loop-value : goal.invariant-loop-value
invariant-loop-value l = (xs : List VarName) × Comes (value_at l.store.held) (variable l.fn.tail) xs l.end × (l.before ≡ set.from_list xs)

abbrev pub decreases-loop-value : goal.decreases-loop-value
decreases-loop-value l = walk (finite.len l.store.held + 1) l.store.held (variable l.end)
