-- What a session, or a schedule played in its place, writes and how its end is reported; and what of it a writer has.
use Rattle.ghcdb.proofs.CitedWords.{◌≡◌, ◌⊎◌, ℕ, List, [], inl, inr, sym, ap, ◌∙◌, subst, subst₂, Option, Result, Ok, Err, OnOk, Fault, Memory, Debugger, Refusal, SessionState, Session, Began, Tells, append_known}
use Rattle.std.specs.Prelude.{IfErr, MatchResult}
use Rattle.ghc_term.specs.declared.fault.Fault.TheVariants.{Device}
use Rattle.ghc_console.specs.SessionState.{state_of}
use Rattle.ghcdb.specs.inner.Ending.{BreaksOff, IsEndRefusal, ended_as, part_at_end}
use Rattle.ghcdb.specs.inner.Outputs.{HasOutput, PlaysSchedule, RunsOrPlays, RunsSession}
use Rattle.ghcdb.specs.declared.refused_part.RefusedPart.TheVariants as part
use Rattle.ghcdb.specs.declared.run_or_play.Task.{Task}
use Rattle.ghcdb.specs.declared.run_or_play.Task.TheVariants as kind

-- how a session or a schedule ends, and the report of it
abbrev pub Ended : Type 0
Ended = Result Unit Fault

abbrev pub Told : Type 0
Told = Result Unit Refusal

-- ---- what is written

pub session_told : (d : Debugger) (task : Task) (unread before after : Option (List ℕ)) (ended : Ended) (told : Told) → task ≡ kind.Session → told ≡ ended_as part.Session ended → RunsSession (state_of d) unread before after ended
    → RunsOrPlays task d unread before after told
session_told d task unread before after (Ok done) told session is runs = subst₂ (λ (t : Task) (r : Told). RunsOrPlays t d unread before after r) (sym session) (sym is) runs
session_told d task unread before after (Err f) told session is runs = subst₂ (λ (t : Task) (r : Told). RunsOrPlays t d unread before after r) (sym session) (sym is) runs

pub schedule_told : (d : Debugger) (task : Task) (unread before after : Option (List ℕ)) (ended : Ended) (told : Told) → task ≡ kind.Schedule → told ≡ ended_as part.Schedule ended → PlaysSchedule d.core unread before after ended
    → RunsOrPlays task d unread before after told
schedule_told d task unread before after (Ok done) told schedule is plays = subst₂ (λ (t : Task) (r : Told). RunsOrPlays t d unread before after r) (sym schedule) (sym is) plays
schedule_told d task unread before after (Err f) told schedule is plays = subst₂ (λ (t : Task) (r : Told). RunsOrPlays t d unread before after r) (sym schedule) (sym is) plays

pub ran : (s t : SessionState) (unread before after : Option (List ℕ)) (asked : ℕ) (ended : Ended) → MatchResult ended (λ _. Tells Session s unread before after asked t) (λ _. Tells Began s unread before after asked t)
    → RunsSession s unread before after ended
ran s t unread before after asked (Ok done) told = (asked, t, told)
ran s t unread before after asked (Err f) told = (asked, t, told)

-- ---- how it ends

pub fails_so : (ended : Ended) (More : Type 0) → IfErr ended (λ f. (f ≡ Device) × More) → IfErr ended (λ f. f ≡ Device)
fails_so (Ok done) More why = tt
fails_so (Err f) More why = why.0

-- a refusal of its part
pub schedule_refused : (task : Task) (ended : Ended) (told : Told) → task ≡ kind.Schedule → told ≡ ended_as part.Schedule ended → IfErr ended (λ f. (f ≡ Memory) ⊎ (f ≡ Device)) → IfErr told (IsEndRefusal task)
schedule_refused task (Ok done) told schedule is why = subst (λ (r : Told). IfErr r (IsEndRefusal task)) (sym is) tt
schedule_refused task (Err f) told schedule is why =
    subst (λ (r : Told). IfErr r (IsEndRefusal task)) (sym is) (record { part_is = ap part_at_end (sym schedule); fault = subst (λ (t : Task). BreaksOff t f) (sym schedule) why })

pub session_refused : (task : Task) (ended : Ended) (told : Told) → task ≡ kind.Session → told ≡ ended_as part.Session ended → IfErr ended (λ f. f ≡ Device) → IfErr told (IsEndRefusal task)
session_refused task (Ok done) told session is why = subst (λ (r : Told). IfErr r (IsEndRefusal task)) (sym is) tt
session_refused task (Err f) told session is why =
    subst (λ (r : Told). IfErr r (IsEndRefusal task)) (sym is) (record { part_is = ap part_at_end (sym session); fault = subst (λ (t : Task). BreaksOff t f) (sym session) why })

-- A schedule that ends well leaves nothing in the device.
pub held_played : (ended : Ended) (H : Type 0) → (ended ≡ Err Device) ⊎ H → OnOk ended H
held_played (Ok done) H (inl e) = absurd cc
held_played (Ok done) H (inr held) = held
held_played (Err f) H so = tt

-- ---- what a writer has

-- The writer under the buffer has what was written, but for what the buffer holds.
pub in_writer : (task : Task) (d : Debugger) (unread before written handed after : Option (List ℕ)) (held : List ℕ) (told : Told) → RunsOrPlays task d unread before written told → OnOk told (held ≡ []) → after ≡ handed
    → written ≡ append_known handed held → HasOutput task d unread before after told
in_writer task d unread before written handed after held told writes none is cut =
    (held, none, subst (λ (w : Option (List ℕ)). RunsOrPlays task d unread before w told) (cut ∙ ap (λ w. append_known w held) (sym is)) writes)
