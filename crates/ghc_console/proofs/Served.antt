-- What it is to have served a line.
use Rattle.ghc_console.proofs.CitedWords.{◌≡◌, ◌≤◌, ℕ, Bool, true, false, Option, List, [], length, take, refl, sym, subst, Result, Ok, Err, MatchResult, Appends, Keeps, Appends-kept, Appends-nil, GoalName, AsksForRun, HasRun, IsAnsweredBy, ServesSo, command_of, Counts, WritesFront, line_limit, IsReply, refusal, no_memory, Served, SessionState, Answered, Told as told, Ends as ends, Asks as asks, Lists as lists, AsksForListing}
use Rattle.ghc_term.specs.declared.fault.Fault.TheVariants as fault
use Rattle.ghc_console.specs.declared.answered.Listing.{Listing}
use Rattle.ghc_console.proofs.RunCommands.{run_replied}
use Rattle.ghc_console.proofs.SessionLoop.{kept_then}

-- what is said of the answer to a line, with the text that was written for it
abbrev IsAnswer : {E : Type 0} → SessionState → SessionState → List ℕ → List ℕ → Result Answered E → Type 0
IsAnswer s t bytes text r = MatchResult r (IsAnsweredBy s bytes text t) (λ _. IsReply s bytes (refusal fault.Memory) t false)

-- a call that does not fail is not counted
pub counts_same : {T E : Type 0} (before after : ℕ) (r : Result T E) (t : T) → r ≡ Ok t → Counts before after r → after ≡ before
counts_same before after r t is count = subst (λ q. Counts before after q) is count

-- the reply, by what the line was answered with
pub told_reply : {E : Type 0} (s t : SessionState) (bytes text : List ℕ) (r : Result Answered E) (a : Answered) → r ≡ Ok a → a ≡ told → IsAnswer s t bytes text r → IsReply s bytes text t false
told_reply s t bytes text r a e is h = subst (λ b. IsAnsweredBy s bytes text t b) is (subst (IsAnswer s t bytes text) e h)

pub ends_reply : {E : Type 0} (s t : SessionState) (bytes text : List ℕ) (r : Result Answered E) (a : Answered) → r ≡ Ok a → a ≡ ends → IsAnswer s t bytes text r → IsReply s bytes text t true
ends_reply s t bytes text r a e is h = subst (λ b. IsAnsweredBy s bytes text t b) is (subst (IsAnswer s t bytes text) e h)

-- the run for which the line asks
pub asks_run : {E : Type 0} (s t : SessionState) (bytes text : List ℕ) (r : Result Answered E) (a : Answered) (root : Option GoalName) (limit : ℕ) → r ≡ Ok a → a ≡ asks root limit → IsAnswer s t bytes text r
    → (t ≡ s) × (length bytes ≤ line_limit) × AsksForRun s.world (command_of bytes) root limit
asks_run s t bytes text r a root limit e is h = subst (λ b. IsAnsweredBy s bytes text t b) is (subst (IsAnswer s t bytes text) e h)

-- the listing for which the line asks
pub asks_listing : {E : Type 0} (s t : SessionState) (bytes text : List ℕ) (r : Result Answered E) (a : Answered) (listed : Listing) → r ≡ Ok a → a ≡ lists listed → IsAnswer s t bytes text r
    → (t ≡ s) × (length bytes ≤ line_limit) × AsksForListing (command_of bytes) listed
asks_listing s t bytes text r a listed e is h = subst (λ b. IsAnsweredBy s bytes text t b) is (subst (IsAnswer s t bytes text) e h)

pub starved_reply : {E : Type 0} (s t : SessionState) (bytes text : List ℕ) (r : Result Answered E) (error : E) → r ≡ Err error → IsAnswer s t bytes text r → IsReply s bytes (refusal fault.Memory) t false
starved_reply s t bytes text r error e h = subst (IsAnswer s t bytes text) e h

-- the reply was written, or a beginning of it
pub serves : {E : Type 0} (s t : SessionState) (bytes text out : List ℕ) (ended : Bool) (old new : Option (List ℕ)) → IsReply s bytes text t ended → out ≡ text → Appends old new out → Served {E = E} s bytes t old new (Ok ended)
serves s t bytes text out ended old new reply is wrote = record { text = text; ended = ended; reply = reply; written = (refl, subst (Appends old new) is wrote) }

pub breaks : {E : Type 0} (error : E) (s t : SessionState) (bytes text out : List ℕ) (ended : Bool) (old new : Option (List ℕ)) → IsReply s bytes text t ended → out ≡ text → (n : ℕ) × Appends old new (take n out)
    → Served {E = E} s bytes t old new (Err error)
breaks error s t bytes text out ended old new reply is wrote = record { text = text; ended = ended; reply = reply; written = (wrote.0, subst (λ l. Appends old new (take wrote.0 l)) is wrote.1) }

-- what was written before could not be handed on, so the run was not made, and nothing was written for it
pub not_run : {E : Type 0} (error : E) (s t : SessionState) (bytes : List ℕ) (old new : Option (List ℕ)) → t ≡ s → Keeps old new → Served {E = E} s bytes t old new (Err error)
not_run error s t bytes old new same kept = record {
  text = refusal fault.Memory;
  ended = false;
  reply = subst (λ u. IsReply s bytes (refusal fault.Memory) u false) (sym same) no_memory;
  written = (0, Appends-kept _ _ _ [] (Appends-nil old) kept);
}

-- what was written, by whether a call failed
abbrev HasWritten : {E : Type 0} → Option (List ℕ) → Option (List ℕ) → List ℕ → Bool → Result Bool E → Type 0
HasWritten old new text ended r = MatchResult r (λ b. (b ≡ ended) × Appends old new text) (λ _. (n : ℕ) × Appends old new (take n text))

has_served : {E : Type 0} (s t : SessionState) (bytes : List ℕ) (old new : Option (List ℕ)) (ended : Bool) → Served {E = E} s bytes t old new (Ok ended) → (text : List ℕ) × IsReply s bytes text t ended × Appends old new text
has_served {E} s t bytes old new ended served =
    let wrote : HasWritten {E = E} old new served.text served.ended (Ok ended) = served.written in
    (served.text, subst (IsReply s bytes served.text t) (sym wrote.0) served.reply, wrote.1)

pub has_told : {E : Type 0} (s t : SessionState) (bytes : List ℕ) (old new : Option (List ℕ)) (r : Result Answered E) (a : Answered) → r ≡ Ok a → a ≡ told → ServesSo s bytes t old new r
    → (text : List ℕ) × IsReply s bytes text t false × Appends old new text
has_told {E} s t bytes old new r a e is h = has_served {E = E} s t bytes old new false (subst (λ b. ServesSo {E = E} s bytes t old new (Ok b)) is (subst (ServesSo {E = E} s bytes t old new) e h))

pub has_listed : {E : Type 0} (s t : SessionState) (bytes : List ℕ) (old new : Option (List ℕ)) (r : Result Answered E) (a : Answered) (listed : Listing) → r ≡ Ok a → a ≡ lists listed → ServesSo s bytes t old new r
    → (text : List ℕ) × IsReply s bytes text t false × Appends old new text
has_listed {E} s t bytes old new r a listed e is h = has_served {E = E} s t bytes old new false (subst (λ b. ServesSo {E = E} s bytes t old new (Ok b)) is (subst (ServesSo {E = E} s bytes t old new) e h))

pub has_ended : {E : Type 0} (s t : SessionState) (bytes : List ℕ) (old new : Option (List ℕ)) (r : Result Answered E) (a : Answered) → r ≡ Ok a → a ≡ ends → ServesSo s bytes t old new r
    → (text : List ℕ) × IsReply s bytes text t true × Appends old new text
has_ended {E} s t bytes old new r a e is h = has_served {E = E} s t bytes old new true (subst (λ b. ServesSo {E = E} s bytes t old new (Ok b)) is (subst (ServesSo {E = E} s bytes t old new) e h))

pub has_asked : {E : Type 0} (s t : SessionState) (bytes : List ℕ) (old new : Option (List ℕ)) (r : Result Answered E) (a : Answered) (root : Option GoalName) (limit : ℕ) → r ≡ Ok a → a ≡ asks root limit → ServesSo s bytes t old new r
    → (t ≡ s) × Keeps old new × (length bytes ≤ line_limit) × AsksForRun s.world (command_of bytes) root limit
has_asked {E} s t bytes old new r a root limit e is h = subst (λ b. ServesSo {E = E} s bytes t old new (Ok b)) is (subst (ServesSo {E = E} s bytes t old new) e h)

pub has_broken : {E : Type 0} (s t : SessionState) (bytes : List ℕ) (old new : Option (List ℕ)) (r : Result Answered E) (error : E) → r ≡ Err error → ServesSo s bytes t old new r
    → (text : List ℕ) × (ended : Bool) × IsReply s bytes text t ended × ((n : ℕ) × Appends old new (take n text))
has_broken {E} s t bytes old new r error e h =
    let served : Served {E = E} s bytes t old new (Err error) = subst (ServesSo {E = E} s bytes t old new) e h in
    let wrote : HasWritten {E = E} old new served.text served.ended (Err error) = served.written in
    (served.text, served.ended, served.reply, wrote)

-- the run for which a line asks was made, and its text written, or a beginning of it
pub has_run : {E : Type 0} (s t u : SessionState) (bytes : List ℕ) (old now new : Option (List ℕ)) (root : Option GoalName) (limit : ℕ) (r : Result Unit E) (one : Unit)
    → (t ≡ s) × Keeps old now × (length bytes ≤ line_limit) × AsksForRun s.world (command_of bytes) root limit
    → (text : List ℕ) × HasRun t root limit text u × WritesFront now new r text → r ≡ Ok one
    → (text : List ℕ) × IsReply s bytes text u false × Appends old new text
has_run {E} s t u bytes old now new root limit r one asked ran is =
    let run : HasRun s root limit ran.0 u = subst (λ v. HasRun v root limit ran.0 u) asked.0 ran.1 in
    let wrote : WritesFront {E = E} now new (Ok one) ran.0 = subst (λ q. WritesFront {E = E} now new q ran.0) is ran.2 in
    (ran.0, run_replied s u bytes root limit ran.0 asked.2 asked.3 run, kept_then old now new ran.0 asked.1 wrote)

pub has_broken_run : {E : Type 0} (s t u : SessionState) (bytes : List ℕ) (old now new : Option (List ℕ)) (root : Option GoalName) (limit : ℕ) (r : Result Unit E) (error : E)
    → (t ≡ s) × Keeps old now × (length bytes ≤ line_limit) × AsksForRun s.world (command_of bytes) root limit
    → (text : List ℕ) × HasRun t root limit text u × WritesFront now new r text → r ≡ Err error
    → (text : List ℕ) × (ended : Bool) × IsReply s bytes text u ended × ((n : ℕ) × Appends old new (take n text))
has_broken_run {E} s t u bytes old now new root limit r error asked ran is =
    let run : HasRun s root limit ran.0 u = subst (λ v. HasRun v root limit ran.0 u) asked.0 ran.1 in
    let wrote : WritesFront {E = E} now new (Err error) ran.0 = subst (λ q. WritesFront {E = E} now new q ran.0) is ran.2 in
    (ran.0, false, run_replied s u bytes root limit ran.0 asked.2 asked.3 run, (wrote.0, kept_then old now new _ asked.1 wrote.1))
