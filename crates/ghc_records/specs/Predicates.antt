-- The text of a predicate, and what a line says of one.
use Rattle.std.specs.Prelude.{◌≡◌, ℕ, ◌≤◌, List, ◌++◌, codes}
use Rattle.std.specs.Fmt.{decimal}
use Rattle.ghc_term.specs.InputTerm.{IsNameText}
use Rattle.ghc_records.specs.declared.predicate.Predicate.{Predicate}
use Rattle.ghc_reader.specs.Lexed.{greatest_number}

-- a predicate, as `append/3`
abbrev pub predicate_text : Predicate → List ℕ
predicate_text p = p.name ++ (codes "/" ++ decimal p.arity)

-- The line says the predicate: its name, a stroke, and its arity, of 32 bits.
abbrev pub SaysPredicate : List ℕ → Predicate → Type 0
SaysPredicate line p = (line ≡ predicate_text p) × IsNameText p.name × (p.arity ≤ greatest_number)

-- Predicates go together whatever they are: in any order, and again and again.
abbrev pub GoTogether : List Predicate → Type 0
GoTogether ps = Unit {0}
