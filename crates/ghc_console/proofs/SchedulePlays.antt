-- How far a schedule has come.
use Rattle.ghc_console.proofs.CitedWords.{◌≡◌, ℕ, None, Some, IfSome, IsAtEnd, Keeps, prepend_known, Appends-kept, append-nil, lines_of, TakesLine, TellsSchedule, nothing_more, List, [], ◌∷◌, ◌++◌, Option, Result, Ok, Err, map, take, ap, sym, ◌∙◌, subst, append_assoc, Appends, Appends-nil, Appends-trans, Fault, Core, Reply, empty_hands, Hands, WritesTold, TellsListing, lined, records_listed, Hears, told_text, ArePlayedOut, BrokenOff, Schedule, WritesSchedule, part_of_records, part_of_reply, hand_count, then_begun, then_whole, told_at_end, with_hands}
use Rattle.ghc_core.specs.declared.world.World.{World as Played}

-- what the rest gives, after what was done, is what the whole gives
pub record Onward (first now : Played) (all rest : List (List ℕ)) (done : List ℕ) : Type 0 where
  pub whole : (out : List ℕ) (new : Played) → Schedule now rest out new → Schedule first all (done ++ out) new
  pub begun : (out : List ℕ) (new : Played) → BrokenOff now rest out new → BrokenOff first all (done ++ out) new

-- the lines in front of the rest were played, and their replies written
pub record Going (first now : Played) (all rest : List (List ℕ)) (written held : Option (List ℕ)) : Type 0 where
  pub done : List ℕ
  pub appended : Appends written held done
  pub onward : Onward first now all rest done

pub going_start : (w : Played) (lines : List (List ℕ)) (written : Option (List ℕ)) → Going w w lines lines written written
going_start w lines written = record { done = []; appended = Appends-nil written; onward = record { whole = λ out new r. r; begun = λ out new r. r } }

-- one line on
pub going_on : (first now next : Played) (all lines rest : List (List ℕ)) (bytes : List ℕ) (reply : Option Reply) (written held held' : Option (List ℕ))
    → Going first now all lines written held → lines ≡ bytes ∷ rest → Hears bytes now reply next → Appends held held' (told_text reply) → Going first next all rest written held'
going_on first now next all lines rest bytes reply written held held' g is heard told =
    let text = told_text reply in record {
      done = g.done ++ text;
      appended = Appends-trans written held held' g.done text g.appended told;
      onward = record {
        whole = λ out new r. subst (λ t. Schedule first all t new) (sym (append_assoc g.done text out)) (g.onward.whole (text ++ out) new (subst (λ l. Schedule now l (text ++ out) new) (sym is) (then_whole heard r)));
        begun = λ out new r. subst (λ t. BrokenOff first all t new) (sym (append_assoc g.done text out)) (g.onward.begun (text ++ out) new (subst (λ l. BrokenOff now l (text ++ out) new) (sym is) (then_begun heard r)));
      };
    }

-- it was broken off in a reply
pub going_broken : (first now next : Played) (all lines rest : List (List ℕ)) (bytes : List ℕ) (reply : Option Reply) (written held held' : Option (List ℕ)) (n : ℕ)
    → Going first now all lines written held → lines ≡ bytes ∷ rest → Hears bytes now reply next → Appends held held' (take n (told_text reply))
    → WritesSchedule BrokenOff first all written held' next
going_broken first now next all lines rest bytes reply written held held' n g is heard told =
    let text = take n (told_text reply) in
    (g.done ++ text, Appends-trans written held held' g.done text g.appended told, g.onward.begun text next (subst (λ l. BrokenOff now l text next) (sym is) (part_of_reply n heard)))

-- it was broken off before the next line
pub going_stopped : (first now : Played) (all lines : List (List ℕ)) (written held held' : Option (List ℕ)) → Going first now all lines written held → Keeps held held' → WritesSchedule BrokenOff first all written held' now
going_stopped first now all lines written held held' g kept = (g.done ++ [], subst (Appends written held') (sym (append-nil g.done)) (Appends-kept written held held' g.done g.appended kept), g.onward.begun [] now nothing_more)

-- the records stand after the last line, or a beginning of them
pub going_last : (first now : Played) (all lines : List (List ℕ)) (written held held' : Option (List ℕ)) (core : Core) (result : Result Unit Fault)
    → Going first now all lines written held → lines ≡ [] → core ≡ now.core → WritesTold (map lined (records_listed core.world.kept)) held held' result → ArePlayedOut first all written held' now result
going_last first now all lines written held held' core (Ok done) g is same told =
    let listed = subst (λ (c : Core). TellsListing (records_listed c.world.kept) told.0) same told.1 in
    (g.done ++ told.0, Appends-trans written held held' g.done told.0 g.appended told.2, g.onward.whole told.0 now (subst (λ l. Schedule now l told.0 now) (sym is) (told_at_end listed)))
going_last first now all lines written held held' core (Err f) g is same told =
    let text = take told.2.0 told.0 in
    let listed = subst (λ (c : Core). TellsListing (records_listed c.world.kept) told.0) same told.1 in
    (g.done ++ text, Appends-trans written held held' g.done text g.appended told.2.1, g.onward.begun text now (subst (λ l. BrokenOff now l text now) (sym is) (part_of_records told.2.0 listed)))

-- the same, where the lines to come are known
abbrev pub KnownGoing : Played → Played → Option (List ℕ) → Option (List ℕ) → Option (List ℕ) → Option (List ℕ) → Type 0
KnownGoing first now None left written held = Unit {0}
KnownGoing first now (Some text) None written held = ⊥
KnownGoing first now (Some text) (Some rest) written held = Going first now (lines_of text) (lines_of rest) written held

pub known_start : (w : Played) (unread written : Option (List ℕ)) → KnownGoing w w unread (prepend_known [] unread) written written
known_start w None written = tt
known_start w (Some text) written = going_start w (lines_of text) written

-- Handing on writes nothing else.
pub known_kept : (first now : Played) (old left written held held' : Option (List ℕ)) → KnownGoing first now old left written held → Keeps held held' → KnownGoing first now old left written held'
known_kept first now None left written held held' g kept = tt
known_kept first now (Some text) None written held held' g kept = absurd g
known_kept first now (Some text) (Some rest) written held held' g kept = record { done = g.done; appended = Appends-kept written held held' g.done g.appended kept; onward = g.onward }

pub known_on : (first now next : Played) (old left left' written held held' : Option (List ℕ)) (P : List ℕ → Type 0)
    → KnownGoing first now old left written held → TakesLine left left' P
    → ((bytes : List ℕ) → P bytes → (reply : Option Reply) × Hears bytes now reply next × Appends held held' (told_text reply))
    → KnownGoing first next old left' written held'
known_on first now next None left left' written held held' P g t heard = tt
known_on first now next (Some text) None left' written held held' P g t heard = absurd g
known_on first now next (Some text) (Some rest) None written held held' P g t heard = absurd t
known_on first now next (Some text) (Some rest) (Some rest') written held held' P g t heard =
    let reply = heard t.bytes t.says in
    going_on first now next (lines_of text) (lines_of rest) (lines_of rest') t.bytes reply.0 written held held' g t.lines reply.1 reply.2

pub known_broken : (first now next : Played) (old left left' written held held' : Option (List ℕ)) (P : List ℕ → Type 0)
    → KnownGoing first now old left written held → TakesLine left left' P
    → ((bytes : List ℕ) → P bytes → (reply : Option Reply) × Hears bytes now reply next × ((n : ℕ) × Appends held held' (take n (told_text reply))))
    → IfSome old (λ text. WritesSchedule BrokenOff first (lines_of text) written held' next)
known_broken first now next None left left' written held held' P g t heard = tt
known_broken first now next (Some text) None left' written held held' P g t heard = absurd g
known_broken first now next (Some text) (Some rest) None written held held' P g t heard = absurd t
known_broken first now next (Some text) (Some rest) (Some rest') written held held' P g t heard =
    let reply = heard t.bytes t.says in
    going_broken first now next (lines_of text) (lines_of rest) (lines_of rest') t.bytes reply.0 written held held' reply.2.0 g t.lines reply.1 reply.2.1

pub known_stopped : (first now : Played) (old left written held held' : Option (List ℕ)) → KnownGoing first now old left written held → Keeps held held'
    → IfSome old (λ text. WritesSchedule BrokenOff first (lines_of text) written held' now)
known_stopped first now None left written held held' g kept = tt
known_stopped first now (Some text) None written held held' g kept = absurd g
known_stopped first now (Some text) (Some rest) written held held' g kept = going_stopped first now (lines_of text) (lines_of rest) written held held' g kept

pub known_last : (first now : Played) (old left written held held' : Option (List ℕ)) (core : Core) (result : Result Unit Fault)
    → KnownGoing first now old left written held → IsAtEnd left → core ≡ now.core → WritesTold (map lined (records_listed core.world.kept)) held held' result → TellsSchedule first old written held' now result
known_last first now None left written held held' core result g end same told = tt
known_last first now (Some text) None written held held' core result g end same told = absurd g
known_last first now (Some text) (Some rest) written held held' core result g end same told = going_last first now (lines_of text) (lines_of rest) written held held' core result g (ap lines_of end) same told

-- nothing was written
pub known_none : (first : Played) (unread written : Option (List ℕ)) → IfSome unread (λ text. WritesSchedule BrokenOff first (lines_of text) written written first)
known_none first None written = tt
known_none first (Some text) written = ([], Appends-nil written, nothing_more)

abbrev made : Core → Hands → ℕ → ℕ → Played
made core hands firings tries = record { core = core; hands = hands; meter = record { firings = firings; tries = tries } }

-- a core with hands that was just made
pub opened : (w : Played) (core : Core) → w.core ≡ core → w.hands ≡ empty_hands hand_count → (w.meter.firings ≡ 0) × (w.meter.tries ≡ 0) → w ≡ with_hands core
opened w core same none zero =
    let hands = empty_hands hand_count in
    ap (λ c. made c w.hands w.meter.firings w.meter.tries) same ∙ ap (λ h. made core h w.meter.firings w.meter.tries) none
    ∙ ap (λ n. made core hands n w.meter.tries) zero.0 ∙ ap (made core hands 0) zero.1
