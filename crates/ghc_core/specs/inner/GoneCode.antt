-- Steps that go with one code are one.
use Rattle.std.specs.Prelude.{List, refl}
use Rattle.std.specs.Coded.{Coded, code_by, coded×}
use Rattle.ghc_records.specs.Record.{Record}
use Rattle.ghc_records.specs.inner.RecordCode.{record_code, records_code}
use Rattle.ghc_core.specs.Gone.{Gone}

-- the code of a step that is taken away and the steps that go with it, which no others have
abbrev pub gone_code : Coded Gone
gone_code = code_by (Record × List Record) (coded× record_code records_code) (λ g. (g.first, g.others)) (λ p. record { first = p.0; others = p.1 }) (λ _. refl)
