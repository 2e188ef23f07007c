-- Two histories with one code are one.
use Rattle.std.specs.Prelude.{ℕ, List, refl}
use Rattle.std.specs.Coded.{Coded, code_by, coded×, coded_list, coded_ℕ}
use Rattle.ghc_records.specs.Journal.{Step}
use Rattle.ghc_records.specs.History.{History}
use Rattle.ghc_records.specs.inner.RecordCode.{step_code}

-- the code of a history, its steps and the next number, which no other history has
abbrev pub history_code : Coded History
history_code = code_by (List Step × ℕ) (coded× (coded_list step_code) coded_ℕ) (λ h. (h.steps, h.next)) (λ p. record { steps = p.0; next = p.1 }) (λ _. refl)
