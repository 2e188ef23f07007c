-- Two chronicles with one code are one, and what an entry that was read says.
use Rattle.std.specs.Prelude.{ℕ, List, refl}
use Rattle.std.specs.Coded.{Coded, code_by, coded×, coded_list, coded_ℕ}
use Rattle.ghc_records.specs.declared.predicate.Predicate.{Predicate}
use Rattle.ghc_records.specs.Journal.{Entry}
use Rattle.ghc_records.specs.History.{History}
use Rattle.ghc_records.specs.inner.HistoryCode.{history_code}
use Rattle.ghc_records.specs.inner.RecordCode.{journal_code}
use Rattle.ghc_records.specs.Chronicle.{Chronicle}

-- the code of a spied predicate, its name and arity, which no other predicate has
abbrev pub predicate_code : Coded Predicate
predicate_code = code_by (List ℕ × ℕ) (coded× (coded_list coded_ℕ) coded_ℕ) (λ p. (p.name, p.arity)) (λ p. record { name = p.0; arity = p.1 }) (λ _. refl)

-- the code of a chronicle, which no other chronicle has
abbrev pub chronicle_code : Coded Chronicle
chronicle_code =
    code_by (History × (List Entry × (List Predicate × ℕ))) (coded× history_code (coded× journal_code (coded× (coded_list predicate_code) coded_ℕ)))
    (λ c. (c.opening, (c.entries, (c.spies, c.next)))) (λ p. record { opening = p.0; entries = p.1.0; spies = p.1.1.0; next = p.1.1.1 }) (λ _. refl)
