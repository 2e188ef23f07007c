-- What was told of a schedule still stands where more of it is handed on.
use Rattle.ghcdb.proofs.CitedWords.{ℕ, List, [], Option, None, Some, Result, Ok, Err, length, subst, take-length, Keeps, Appends-kept, Fault, Core, BrokenOff, IsScheduleOf, Schedule, part_of_records, then_begun, then_whole, told_at_end}
use Rattle.ghc_core.specs.declared.world.World.{World as Played}

-- A whole text begins itself.
whole_begins : {old new : Played} {lines : List (List ℕ)} {out : List ℕ} → Schedule old lines out new → BrokenOff old lines out new
whole_begins {new = new} (told_at_end {text = text} told) = subst (λ t. BrokenOff new [] t new) (take-length text) (part_of_records (length text) told)
whole_begins (then_whole heard rest) = then_begun heard (whole_begins rest)

-- Handing on writes nothing else.
pub played_kept : (core left : Core) (unread written now later : Option (List ℕ)) (result : Result Unit Fault) → IsScheduleOf core unread written now left result → Keeps now later
    → IsScheduleOf core unread written later left result
played_kept core left None written now later result played kept = (played.0, played.1, tt)
played_kept core left (Some text) written now later (Ok done) played kept = (played.0, played.1, (played.2.0, Appends-kept written now later played.2.0 played.2.1 kept, played.2.2))
played_kept core left (Some text) written now later (Err f) played kept = (played.0, played.1, (played.2.0, Appends-kept written now later played.2.0 played.2.1 kept, played.2.2))

abbrev pub broken_off : Fault → Result Unit Fault
broken_off f = Err f

-- It was broken off after its end, or before.
pub played_begun : (core left : Core) (unread written now : Option (List ℕ)) (result : Result Unit Fault) (fault : Fault) → IsScheduleOf core unread written now left result
    → IsScheduleOf core unread written now left (broken_off fault)
played_begun core left None written now result fault played = (played.0, played.1, tt)
played_begun core left (Some text) written now (Ok done) fault played = (played.0, played.1, (played.2.0, played.2.1, whole_begins played.2.2))
played_begun core left (Some text) written now (Err f) fault played = played
