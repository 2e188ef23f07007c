-- What a session told stays told where nothing more is written; and what a whole session told is what one that is broken off may tell.
use Rattle.ghcdb.proofs.CitedWords.{ℕ, Option, None, Some, List, ◌∷◌, length, subst, take-length, Keeps, Appends-kept, Session, Began, Tells, at_end, ends, goes_on, nothing_yet, broken, went_on, SessionState}

pub told_kept : (Run : ℕ → SessionState → List (List ℕ) → List ℕ → SessionState → Type 0) (s t : SessionState) (unread written now later : Option (List ℕ)) (before : ℕ)
    → Tells Run s unread written now before t → Keeps now later → Tells Run s unread written later before t
told_kept Run s t None written now later before told k = tt
told_kept Run s t (Some input) written now later before told k = record {
  count = told.count;
  out = told.out;
  appended = Appends-kept _ _ _ told.out told.appended k;
  run = told.run;
  asked = told.asked;
}

-- A whole session is one that was begun.
began : (count : ℕ) (s t : SessionState) (lines : List (List ℕ)) (out : List ℕ) → Session count s lines out t → Began count s lines out t
began count s t lines out at_end = nothing_yet
began count s t lines out (ends {line = line} {text = text} {lines = more} reply) = subst (λ told. Began 0 s (line ∷ more) told t) (take-length text) (broken (length text) reply)
began count s t lines out (goes_on {count = left} {r = r} {rest = rest} {lines = more} reply run) = went_on reply (began left r t more rest run)

pub told_begun : (s t : SessionState) (unread written now : Option (List ℕ)) (before : ℕ) → Tells Session s unread written now before t → Tells Began s unread written now before t
told_begun s t None written now before told = tt
told_begun s t (Some input) written now before told = record {
  count = told.count;
  out = told.out;
  appended = told.appended;
  run = began told.count s t _ told.out told.run;
  asked = told.asked;
}
