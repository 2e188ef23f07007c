-- Two arrangements with one code are one.
use Rattle.std.specs.Prelude.{ℕ, List, refl}
use Rattle.std.specs.Coded.{Coded, code_by, coded×, coded_list, coded_ℕ}
use Rattle.ghc_records.specs.Record.{Record}
use Rattle.ghc_records.specs.inner.RecordCode.{records_code}
use Rattle.ghc_core.specs.Arrangement.{Arrangement}

-- the code of an arrangement, its records and their order, which no other arrangement has
abbrev pub arrangement_code : Coded Arrangement
arrangement_code = code_by (List Record × List ℕ) (coded× records_code (coded_list coded_ℕ)) (λ a. (a.records, a.order)) (λ p. record { records = p.0; order = p.1 }) (λ _. refl)
