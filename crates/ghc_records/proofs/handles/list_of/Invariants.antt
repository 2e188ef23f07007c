use Rattle.std.proofs.Common.{◌≡◌, take}
use Rattle.ghc_records.proofs.handles.list_of.Given as goal

abbrev pub invariant-loop-index : goal.invariant-loop-index
invariant-loop-index l = l.handles.items ≡ take l.index l.made.goals
