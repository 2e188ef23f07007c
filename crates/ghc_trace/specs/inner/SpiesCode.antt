-- Two sets of spies with one code are one.
use Rattle.std.specs.Prelude.{ℕ, List, refl}
use Rattle.std.specs.Coded.{Coded, code_by, coded×, coded_list, coded_ℕ}
use Rattle.std.specs.FinSet as set
use Rattle.ghc_trace.specs.declared.spies.Predicate.{Predicate}
use Rattle.ghc_trace.specs.Spies.{Spies}

-- the code of a predicate to spy on, its name and arity, which no other predicate has
abbrev pub predicate_code : Coded Predicate
predicate_code = code_by (List ℕ × ℕ) (coded× (coded_list coded_ℕ) coded_ℕ) (λ p. (p.name, p.arity)) (λ p. record { name = p.0; arity = p.1 }) (λ _. refl)

-- the code of a set of spies, which no other set of spies has
abbrev pub spies_code : Coded Spies
spies_code = set.code predicate_code
