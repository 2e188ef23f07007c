-- Lines and columns.
use Rattle.std.specs.Prelude.{ℕ, ◌+◌, List, [], ◌∷◌, ◌==◌, if◌then◌else◌}
use Rattle.ghc_term.specs.declared.fault.Fault.{Fault}
use Rattle.ghc_term.specs.declared.fault.Fault.TheVariants.{Syntax}
use Rattle.ghc_reader.specs.declared.place.Place.{Place}

-- the first byte of a text
abbrev pub start : Place
start = record { line = 1; column = 1 }

-- the place after one byte: a line starts after each line feed
abbrev pub behind_byte : Place → ℕ → Place
behind_byte place b =
    if b == 10 then record { line = place.line + 1; column = 1 }
    else record { line = place.line; column = place.column + 1 }

-- the place after these bytes
abbrev pub place_behind : Place → List ℕ → Place
place_behind place [] = place
place_behind place (b ∷ bs) = place_behind (behind_byte place b) bs

-- the refusal of what stands at a place
abbrev pub fault_at : Place → Fault
fault_at place = Syntax place.line place.column
