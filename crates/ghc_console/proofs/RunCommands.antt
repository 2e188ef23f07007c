-- What commands that run are answered with.
use Rattle.ghc_console.proofs.CitedWords.{◌≡◌, ◌⊎◌, ◌≤◌, ℕ, true, false, List, length, inl, inr, refl, sym, subst, Bor, Option, Some, None, is_some, option_copied, GoalName, Goal, World, Spies, command_of, line_limit, Fires, RepliesToSkip, no_goal, skips, Answers, IsReply, no_memory, quits, replies, refusal, AsksForListing, AsksForRun, goals_asks, leap_asks, records_asks, save_asks, save_steps_asks, shelf_asks, skip_asks, IsAnsweredBy, IsCommandAnsweredBy, HasRun, SessionState, LineCommand, Answered, Told as told, Ends as ends, Asks as asks, Lists as lists}
use Rattle.std.specs.FinMap as finite
use Rattle.ghc_console.specs.inner.Answered.{IsListing}
use Rattle.ghc_console.specs.declared.answered.Listing.{Listing}
use Rattle.ghc_term.specs.declared.fault.Fault.TheVariants as fault

-- What a command is answered with, its line is.
pub line_answered : (s t : SessionState) (line text : List ℕ) (a : Answered) → length line ≤ line_limit → IsCommandAnsweredBy s (command_of line) text t a → IsAnsweredBy s line text t a
line_answered s t line text told short h = subst (IsReply s line text t) h.1 (replies short h.0)
line_answered s t line text ends short h = subst (IsReply s line text t) h.1 (replies short h.0)
line_answered s t line text (asks root limit) short h = (h.0, short, h.1)
line_answered s t line text (lists listed) short h = (h.0, short, h.1)

-- The text of a run for which a command asks is its reply, after which the session goes on.
run_answers : (s t : SessionState) (c : LineCommand) (root : Option GoalName) (limit : ℕ) (text : List ℕ) → AsksForRun s.world c root limit → HasRun s root limit text t → Answers s c text t × (quits c ≡ false)
run_answers s t c root limit text (leap_asks most) ran = (record { told = ran.run; spies = ran.spies; workers = ran.workers; lines = ran.lines }, refl)
run_answers s t c root limit text (skip_asks g b there) ran = (record { told = skips b there ran.run; spies = ran.spies; workers = ran.workers; lines = ran.lines }, refl)

-- So is that of a run for which a line asks.
pub run_replied : (s t : SessionState) (line : List ℕ) (root : Option GoalName) (limit : ℕ) (text : List ℕ) → length line ≤ line_limit → AsksForRun s.world (command_of line) root limit → HasRun s root limit text t
    → IsReply s line text t false
run_replied s t line root limit text short asked ran =
    let answers = run_answers s t (command_of line) root limit text asked ran in
    subst (IsReply s line text t) answers.1 (replies short answers.0)

-- The text of a listing for which a command asks is its reply, after which the session goes on; or memory was refused.
listing_answers : (s : SessionState) (c : LineCommand) (listed : Listing) (text : List ℕ) → AsksForListing c listed → IsListing s.world s.spies listed text → (Answers s c text s × (quits c ≡ false)) ⊎ (text ≡ refusal fault.Memory)
listing_answers s c listed text records_asks lines = inl (record { told = (lines, refl); spies = refl; workers = refl; lines = refl }, refl)
listing_answers s c listed text goals_asks (inl lines) = inl (record { told = (lines, refl); spies = refl; workers = refl; lines = refl }, refl)
listing_answers s c listed text goals_asks (inr starved) = inr starved
listing_answers s c listed text shelf_asks (inl lines) = inl (record { told = (lines, refl); spies = refl; workers = refl; lines = refl }, refl)
listing_answers s c listed text shelf_asks (inr starved) = inr starved
listing_answers s c listed text save_asks (inl lines) = inl (record { told = (lines, refl); spies = refl; workers = refl; lines = refl }, refl)
listing_answers s c listed text save_asks (inr starved) = inr starved
listing_answers s c listed text save_steps_asks (inl lines) = inl (record { told = (lines, refl); spies = refl; workers = refl; lines = refl }, refl)
listing_answers s c listed text save_steps_asks (inr starved) = inr starved

listing_told : (s : SessionState) (line : List ℕ) (listed : Listing) (text : List ℕ) → length line ≤ line_limit → AsksForListing (command_of line) listed → IsListing s.world s.spies listed text → IsReply s line text s false
listing_told s line listed text short asked lines = elim (listing_answers s (command_of line) listed text asked lines) [
  | inl answers ↦ subst (IsReply s line text s) answers.1 (replies short answers.0)
  | inr starved ↦ subst (λ out. IsReply s line out s false) (sym starved) no_memory
]

-- So is that of a listing for which a line asks.
pub listing_replied : (s t : SessionState) (line : List ℕ) (listed : Listing) (text : List ℕ) → t ≡ s → length line ≤ line_limit → AsksForListing (command_of line) listed → IsListing t.world t.spies listed text → IsReply s line text t false
listing_replied s t line listed text same short asked lines =
    subst (λ u. IsReply s line text u false) (sym same) (listing_told s line listed text short asked (subst (λ (u : SessionState). IsListing u.world u.spies listed text) same lines))

-- Of what a run fires nothing is said.
pub run_fires : (w : World) (c : LineCommand) (root : Option GoalName) (limit : ℕ) → AsksForRun w c root limit → (m n : ℕ) → Fires c m n
run_fires w c root limit (leap_asks most) m n = tt
run_fires w c root limit (skip_asks g b there) m n = tt

-- Where no goal is found the refusal is the reply,
pub skip_refused : (workers : ℕ) (spies : Spies) (w : World) (g : GoalName) (o : Option (Bor Goal)) (text : List ℕ) → is_some o ≡ false → option_copied o ≡ finite.get w.state.goals g → text ≡ refusal fault.NoGoal
    → RepliesToSkip workers spies w g text w
skip_refused workers spies w g None text empty there said = subst (λ t. RepliesToSkip workers spies w g t w) (sym said) (no_goal (sym there))
skip_refused workers spies w g (Some b) text empty there said = let clash : true ≡ false = empty in cc

-- and else there is one.
pub goal_there : (w : World) (g : GoalName) (o : Option (Bor Goal)) → is_some o ≡ true → option_copied o ≡ finite.get w.state.goals g → (b : Goal) × (finite.get w.state.goals g ≡ Some b)
goal_there w g None found there = let clash : false ≡ true = found in cc
goal_there w g (Some b) found there = (b.now, sym there)
