-- What reading a line gives and takes.
use Rattle.std.specs.Prelude.{◌≡◌, ◌≢◌, ℕ, ◌+◌, ◌<◌, ◌≤◌, ◌⊎◌, Option, None, Some, IfSome, ⊤, Bool, true, false, List, [], ◌∷◌, ◌++◌, length, All}
use Rattle.std.specs.Io.KnownBytes.{IsAtEnd}
use Rattle.ghc_console.specs.Lines.{Row, line_feeds, line_of, lines_of}
use Rattle.ghc_console.specs.declared.devices.line_buffer.State.{State}
use Rattle.ghc_console.specs.declared.devices.line_buffer.State.TheVariants.{Whole, TooLong, NoMemory}
use Rattle.ghc_console.specs.declared.devices.line_buffer.Gathered.{Gathered}
use Rattle.ghc_console.specs.declared.devices.reading.Line.{Line}
use Rattle.ghc_console.specs.declared.devices.reading.Line.TheVariants as line

-- The most bytes of a line.
abbrev pub line_limit : ℕ
line_limit = 1048576

-- What a line that was read says of its bytes: they are these, or there are too many, or memory was refused.
abbrev pub LineSays : Line → List ℕ → Type 0
LineSays (line.Whole v) bytes = (v.items ≡ bytes) × (length bytes ≤ line_limit)
LineSays line.TooLong bytes = line_limit < length bytes
LineSays line.NoMemory bytes = ⊤

-- The first line of xs was taken, with its line feed if it has one, and ys are left.
pub record TakesFirst (xs ys : List ℕ) (P : List ℕ → Type 0) : Type 0 where
  pub taken : List ℕ
  pub whole : xs ≡ taken ++ ys
  pub one : line_feeds taken ≤ 1
  pub bytes : List ℕ
  pub lines : lines_of xs ≡ bytes ∷ lines_of ys
  pub says : P bytes

-- From bytes to come, old, the first line was taken, and new are left. Nothing is said where old are not known.
abbrev pub TakesLine : Option (List ℕ) → Option (List ℕ) → (List ℕ → Type 0) → Type 0
TakesLine None new P = ⊤
TakesLine (Some xs) None P = ⊥
TakesLine (Some xs) (Some ys) P = TakesFirst xs ys P

-- The next line of the bytes to come, or none at their end.
abbrev pub IsNextLine : Option Line → Option (List ℕ) → Option (List ℕ) → Type 0
IsNextLine None old new = IsAtEnd old × IsAtEnd new
IsNextLine (Some line) old new = TakesLine old new (LineSays line)

-- What is held of the bytes of a row so far: all of them, or none where there are too many even without a carriage return, or memory was refused.
abbrev pub IsGatheredAs : State → List ℕ → List ℕ → Type 0
IsGatheredAs Whole held bytes = (held ≡ bytes) × (length bytes ≤ line_limit + 1)
IsGatheredAs TooLong held bytes = line_limit + 1 < length bytes
IsGatheredAs NoMemory held bytes = 0 < length bytes

-- These bytes of a row were gathered.
abbrev pub HasGathered : Gathered → List ℕ → Type 0
HasGathered g bytes = IsGatheredAs g.state (g.bytes.items) bytes

-- A front of what was read ahead went to the line; where the line ended, the line feed after it was dropped, and else nothing is left.
pub record TakesFront (old new : List ℕ) (line later : Gathered) (ended : Bool) : Type 0 where
  pub piece : List ℕ
  pub plain : All (λ b. b ≢ 10) piece
  pub found : ended ≡ true → old ≡ piece ++ 10 ∷ new
  pub missed : ended ≡ false → (old ≡ piece) × (new ≡ [])
  pub gathers : (bytes : List ℕ) → HasGathered line bytes → HasGathered later (bytes ++ piece)

-- What is made of a row. An empty row without a line feed is none.
abbrev pub IsMadeOf : Option Line → Row → Type 0
IsMadeOf None row = (row.0 ≡ []) × (row.1 ≡ false)
IsMadeOf (Some (line.Whole v)) row = (v.items ≡ line_of row) × (length (line_of row) ≤ line_limit) × ((row.1 ≡ true) ⊎ (0 < length row.0))
IsMadeOf (Some line.TooLong) row = (line_limit < length (line_of row)) × (0 < length row.0)
IsMadeOf (Some line.NoMemory) row = 0 < length row.0

-- A read was made where the bytes that were there of the line, seen, had no line feed. `asked` bytes had been given then, and `given` with those of `ahead` when the line began.
pub record AsksForMore (ahead : List ℕ) (old : Option (List ℕ)) (given asked : ℕ) : Type 0 where
  pub seen : List ℕ
  pub plain : All (λ b. b ≢ 10) seen
  pub front : IfSome old (λ xs. (rest : List ℕ) × (xs ≡ seen ++ rest))
  pub place : asked + length ahead ≡ given + length seen

-- No read was made, or the last one was made since the line needed it.
abbrev pub AsksAtNeed : List ℕ → Option (List ℕ) → ℕ → ℕ → ℕ → Type 0
AsksAtNeed ahead old given before asked = (asked ≡ before) ⊎ AsksForMore ahead old given asked

-- What was given is no longer to come.
abbrev pub CountsGiven : Option (List ℕ) → Option (List ℕ) → ℕ → ℕ → Type 0
CountsGiven None new before given = ⊤
CountsGiven (Some xs) None before given = ⊥
CountsGiven (Some xs) (Some ys) before given = given + length ys ≡ before + length xs
