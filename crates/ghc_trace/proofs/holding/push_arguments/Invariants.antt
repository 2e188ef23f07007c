use Rattle.std.proofs.Common.{◌≡◌, ◌++◌, map, take}
use Rattle.ghc_trace.proofs.holding.push_arguments.Given as goal

abbrev pub invariant-loop-argument : goal.invariant-loop-argument
invariant-loop-argument l = map (λ t. t.now) l.terms.items ≡ map (λ t. t.now) l.initial.terms.items ++ take l.argument-index l.arguments
