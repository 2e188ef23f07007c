-- Spies: predicates, by name and arity, at whose calls a run stops.
use Rattle.std.specs.Prelude.{ℕ, List, length, map, IsTrue}
use Rattle.std.specs.declared.cmp.Ordering.{Ordering}
use Rattle.std.specs.Ordering.{nat_cmp, ordering_then}
use Rattle.std.specs.Cmp.Lexicographic.{slice_cmp}
use Rattle.std.specs.FinSet as set
use Rattle.std.specs.FinMap as finite
use Rattle.ghc_term.specs.Goal.{Goal, call, unify, assign, stream}
use Rattle.ghc_records.specs.declared.predicate.Predicate as written
use Rattle.ghc_trace.specs.declared.spies.Predicate.{Predicate}

-- The predicate of this name and arity.
abbrev pub predicate : List ℕ → ℕ → Predicate
predicate f n = record { name = f; arity = n }

-- Predicates by name, byte by byte, then arity.
abbrev pub predicate_cmp : Predicate → Predicate → Ordering
predicate_cmp p q = ordering_then (slice_cmp nat_cmp p.name q.name) (nat_cmp p.arity q.arity)

-- A set of predicates.
abbrev pub Spies : Type 0
Spies = set.FinSet predicate_cmp

-- The set of predicates that are written, in whatever order they stand and however often.
abbrev pub spied_of : List written.Predicate → Spies
spied_of ps = set.from_list (map (λ p. predicate p.name p.arity) ps)

-- A predicate as it is written.
abbrev pub as_written : Predicate → written.Predicate
as_written p = record { name = p.name; arity = p.arity }

-- Predicates, each once, by name, then arity.
abbrev pub in_order : List Predicate → List Predicate
in_order ps = finite.keys (finite.from_entries {R = predicate_cmp} (map (λ p. (p, tt {0})) ps))

-- The predicates of a set as they are written: each once, by name, then arity.
abbrev pub spies_in_order : Spies → List written.Predicate
spies_in_order spies = map as_written (in_order (set.items spies))

-- The predicate of this name and arity is in the set.
abbrev pub HasPredicate : Spies → List ℕ → ℕ → Type 0
HasPredicate spies f n = IsTrue (set.contains spies (predicate f n))

-- The goal is a call of a predicate of the set.
abbrev pub IsSpied : Spies → Goal → Type 0
IsSpied spies (call f ts) = HasPredicate spies f (length ts)
IsSpied spies (unify l r) = ⊥
IsSpied spies (assign t e) = ⊥
IsSpied spies (stream k x) = ⊥
