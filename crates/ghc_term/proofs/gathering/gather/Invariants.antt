use Rattle.ghc_term.proofs.Words.{[], map, Occurs}
use Rattle.std.specs.FinMap as finite
use Rattle.ghc_term.proofs.Searching.{sizes}
use Rattle.ghc_term.proofs.Gathered.{Gathering}
use Rattle.ghc_term.proofs.gathering.gather.Given as goal

abbrev pub invariant-loop-term : goal.invariant-loop-term
invariant-loop-term l = Gathering (λ y. Occurs y l.from) l.initial.into l.into (map (λ t. t.now) l.waiting.items)

abbrev pub decreases-loop-term : goal.decreases-loop-term
decreases-loop-term l = sizes (finite.from_entries []) (map (λ t. t.now) l.waiting.items)
