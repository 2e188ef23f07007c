-- Tables that grow.
use Rattle.std.specs.Prelude.{ℕ, refl}
use Rattle.std.specs.Coded.{Coded, code_by, coded×, coded_ℕ}

-- A table is what it holds, and how many more entries it takes without memory.
pub record Table (A : Type 0) : Type 0 where
  pub held : A
  pub room : ℕ

-- two tables with one code are one
abbrev pub table_code : {A : Type 0} → Coded A → Coded (Table A)
table_code {A} a = code_by (A × ℕ) (coded× a coded_ℕ) (λ t. (t.held, t.room)) (λ p. record { held = p.0; room = p.1 }) (λ _. refl)
