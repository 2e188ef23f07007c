-- What a reply says after a change.
use Rattle.ghc_console.proofs.CitedWords.{◌≡◌, ℕ, List, ◌++◌, Result, Ok, Err, OnOk, OnErr, IsOk, is_ok, false, if◌then◌else◌, sym, subst, NotesByGoal, World, AreKept, Change, Disturbed, AreStuckOtherwise, IsSettled, NotesTellNews, Standing, news_text, Settled, settled, IsJustChanged}

-- what holds where a text was put after another holds where that was not refused
pub appended : {T E : Type 0} (r : Result T E) {Q : Type 0} (text front more : List ℕ) → text ≡ (if is_ok r then front ++ more else front) → (text ≡ front ++ more → Q) → OnOk r Q
appended (Ok t) text front more e f = f e
appended (Err x) text front more e f = tt

-- and it was put there where that was not refused
pub put : {T E : Type 0} (r : Result T E) (text front more : List ℕ) → text ≡ (if is_ok r then front ++ more else front) → IsOk r → text ≡ front ++ more
put (Ok t) text front more e k = e
put (Err x) text front more e k = cc

-- what holds where a call was refused
pub where_refused : {T E : Type 0} (r : Result T E) {Q : Type 0} → is_ok r ≡ false → OnErr r Q → Q
where_refused (Ok t) e q = cc
where_refused (Err x) e q = q

-- what is stuck otherwise by the notes, once no goal is untried, is the news of the change
pub told_by_notes : NotesTellNews → (w v : World) (change : Change) (old left new : NotesByGoal) (d : Disturbed) (front text : List ℕ) → IsJustChanged w change old v left d
    → AreKept left new → IsSettled v new → (news : List Standing) × AreStuckOtherwise new d news × (text ≡ front ++ news_text news) → Settled w v front text
told_by_notes law w v change old left new d front text j kept all told =
    subst (Settled w v front) (sym told.2) (settled (law w v change old left new d told.0 j.settled j.possible j.changed j.notes_left kept all j.disturbed told.1))
