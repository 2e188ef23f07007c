-- What playing a schedule writes.
use Rattle.std.specs.Prelude.{◌≡◌, ◌⊎◌, ◌+◌, ℕ, List, [], ◌∷◌, ◌++◌, Option, Result, IfSome, MatchResult, take}
use Rattle.std.specs.Io.KnownBytes.{Appends}
use Rattle.ghc_term.specs.declared.fault.Fault.{Fault}
use Rattle.ghc_core.specs.Core.{Core}
use Rattle.ghc_core.specs.Events.{Reply}
use Rattle.ghc_core.specs.Playing.{empty_hands}
use Rattle.ghc_core.specs.declared.world.World.{World as Played}
use Rattle.ghc_console.specs.inner.Device.{WritesFront}
use Rattle.ghc_console.specs.Lines.{lines_of}
use Rattle.ghc_console.specs.Listings.{TellsListing, records_listed}
use Rattle.ghc_console.specs.ScheduleReplies.{Hears, HearsLine, told_text}
use Rattle.ghc_console.specs.declared.devices.reading.Line.{Line}

-- how many hands play a schedule
abbrev pub hand_count : ℕ
hand_count = 64

-- the core with hands that hold nothing, before any event
abbrev pub with_hands : Core → Played
with_hands core = record { core = core; hands = empty_hands hand_count; meter = record { firings = 0; tries = 0 } }

-- Schedule old lines out new: out are the replies to the lines, in order, and then the records. The core and the hands are those of old before, and those of new after.
pub data Schedule : Played → List (List ℕ) → List ℕ → Played → Type 0 where
  told_at_end : {new : Played} {text : List ℕ} → TellsListing (records_listed new.core.world.kept) text → Schedule new [] text new
  then_whole :
      {old mid new : Played} {bytes rest : List ℕ} {lines : List (List ℕ)} {reply : Option Reply}
      → Hears bytes old reply mid
      → Schedule mid lines rest new
      → Schedule old (bytes ∷ lines) (told_text reply ++ rest) new

-- BrokenOff old lines out new: the same of a schedule that was broken off: of the last reply, or of the records, a beginning was written.
pub data BrokenOff : Played → List (List ℕ) → List ℕ → Played → Type 0 where
  nothing_more : {new : Played} {lines : List (List ℕ)} → BrokenOff new lines [] new
  part_of_records : {new : Played} {text : List ℕ} (n : ℕ) → TellsListing (records_listed new.core.world.kept) text → BrokenOff new [] (take n text) new
  part_of_reply :
      {old new : Played} {bytes : List ℕ} {lines : List (List ℕ)} {reply : Option Reply} (n : ℕ)
      → Hears bytes old reply new
      → BrokenOff old (bytes ∷ lines) (take n (told_text reply)) new
  then_begun :
      {old mid new : Played} {bytes rest : List ℕ} {lines : List (List ℕ)} {reply : Option Reply}
      → Hears bytes old reply mid
      → BrokenOff mid lines rest new
      → BrokenOff old (bytes ∷ lines) (told_text reply ++ rest) new

-- What was written is that of such a schedule, which leaves the core and the hands of new.
abbrev pub WritesSchedule : (Played → List (List ℕ) → List ℕ → Played → Type 0) → Played → List (List ℕ) → Option (List ℕ) → Option (List ℕ) → Played → Type 0
WritesSchedule Run old lines written now new = (out : List ℕ) × Appends written now out × Run old lines out new

-- The lines were played, to the end where the result is no error.
abbrev pub ArePlayedOut : {E : Type 0} → Played → List (List ℕ) → Option (List ℕ) → Option (List ℕ) → Played → Result Unit E → Type 0
ArePlayedOut old lines written now new result = MatchResult result (λ _. WritesSchedule Schedule old lines written now new) (λ _. WritesSchedule BrokenOff old lines written now new)

-- The same of the lines to come, where these are known.
abbrev pub TellsSchedule : {E : Type 0} → Played → Option (List ℕ) → Option (List ℕ) → Option (List ℕ) → Played → Result Unit E → Type 0
TellsSchedule old unread written now new result = IfSome unread (λ text. ArePlayedOut old (lines_of text) written now new result)

-- IsScheduleOf core unread written now left result: what was written are the replies to the lines to come, and then the records, or a beginning of that where it was broken off. The 64 hands hold nothing at first. The core is left so.
abbrev pub IsScheduleOf : {E : Type 0} → Core → Option (List ℕ) → Option (List ℕ) → Option (List ℕ) → Core → Result Unit E → Type 0
IsScheduleOf core unread written now left result = (new : Played) × (new.core ≡ left) × TellsSchedule (with_hands core) unread written now new result

-- One line that was read was played: the line of its reply was written, or a beginning of it where it was broken off.
pub record PlaysLine {E : Type 0} (line : Line) (old new : Played) (written now : Option (List ℕ)) (result : Result Unit E) : Type 0 where
  pub reply : Option Reply
  pub heard : HearsLine line old reply new
  pub told : WritesFront written now result (told_text reply)

-- It ends without an error and with no failure of the device; or for memory, with none; or with one, which is the error then.
abbrev pub EndsSo : ℕ → ℕ → Result Unit Fault → Type 0
EndsSo before after result = MatchResult result (λ _. after ≡ before) (λ f. ((f ≡ Fault.Memory) × (after ≡ before)) ⊎ ((f ≡ Fault.Device) × (after ≡ before + 1)))
