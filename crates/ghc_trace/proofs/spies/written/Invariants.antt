use Rattle.ghc_trace.proofs.Words.{◌≡◌, ◌++◌, ◌<◌, All, map, as_written}
use Rattle.ghc_trace.proofs.spies.written.Given as goal

abbrev pub invariant-loop-spied : goal.invariant-loop-spied
invariant-loop-spied l = record {
  listed : l.listed.items ++ map as_written l.spied-iterator ≡ map as_written l.ordered.keys;
  small : All (λ p. p.arity < 4294967296) l.spied-iterator;
}
