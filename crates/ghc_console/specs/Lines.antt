-- The lines of an input.
use Rattle.std.specs.Prelude.{ℕ, ◌==◌, Bool, true, false, if◌then◌else◌, List, [], ◌∷◌, map, count_by}
use Rattle.std.specs.Io.BufRead.{strip_last}

-- A row is the bytes up to a line feed, or up to the end of the input, and whether a line feed ends it.
abbrev pub Row : Type 0
Row = List ℕ × Bool

-- The rows with a byte more in front of the first.
abbrev pub onto : ℕ → List Row → List Row
onto byte [] = (byte ∷ [], false) ∷ []
onto byte (row ∷ rows) = (byte ∷ row.0, row.1) ∷ rows

-- The rows of an input. Nothing after the last line feed is no row.
abbrev pub rows_of : List ℕ → List Row
rows_of [] = []
rows_of (byte ∷ bytes) = if byte == 10 then ([], true) ∷ rows_of bytes else onto byte (rows_of bytes)

-- The line of a row: a carriage return directly before the line feed is dropped.
abbrev pub line_of : Row → List ℕ
line_of row = if row.1 then strip_last 13 row.0 else row.0

-- The lines of an input.
abbrev pub lines_of : List ℕ → List (List ℕ)
lines_of bytes = map line_of (rows_of bytes)

-- how many line feeds the bytes have
abbrev pub line_feeds : List ℕ → ℕ
line_feeds bytes = count_by (λ byte. byte == 10) bytes
