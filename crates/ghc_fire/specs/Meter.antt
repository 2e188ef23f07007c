-- Counts of what was fired and tried.
use Rattle.std.specs.Prelude.{ℕ, ◌+◌, min}
use Rattle.ghc_fire.specs.declared.meter.Meter.{Meter}

-- one more, up to the greatest count
abbrev pub one_more : ℕ → ℕ
one_more n = min (n + 1) 18446744073709551615

-- the counts after one more firing
abbrev pub fired : Meter → Meter
fired m = record { firings = one_more m.firings; tries = m.tries }

-- the counts after one more try
abbrev pub tried : Meter → Meter
tried m = record { firings = m.firings; tries = one_more m.tries }
