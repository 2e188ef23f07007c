-- What a round over a shared core tells of its workers.
use Rattle.std.specs.Prelude.{◌≡◌, ◌≢◌, ◌⊎◌, ℕ, zero, suc, ◌+◌, ◌-◌, ◌≤◌, ◌++◌, List, [], ◌∷◌, length, Bool, true, false, Option, Some, None, Ok, Err}
use Rattle.ghc_core.specs.Playing.{IsRefusal}
use base.Stored.{Gv}
use mathlib.Core.List.{IsPrefix}
use Rattle.ghc_term.specs.Lists.{In}
use Rattle.ghc_term.specs.declared.goal_name.GoalName.{GoalName}
use Rattle.ghc_term.specs.declared.fault.Fault.{Fault}
use Rattle.ghc_fire.specs.Meter.{one_more}
use Rattle.ghc_records.specs.Journal.{Entry, Item, entered}
use Rattle.ghc_hooks.specs.Status.{Status, ready, failed}
use Rattle.ghc_core.specs.World.{Proposal, World, no_hands}
use Rattle.ghc_core.specs.Core.{IsStanding}
use Rattle.ghc_core.specs.Events as events
use Rattle.ghc_core.specs.EventCode.{reply_of}
use Rattle.ghc_core.specs.Legal.{Begins, IsAccepted, IsReceipt}
use Rattle.ghc_core.specs.declared.reply.Reply.{Reply}
use Rattle.ghc_shared.specs.declared.receipt.Receipt as given
use Rattle.ghc_shared.specs.Passes.{Known}
use Rattle.ghc_shared.specs.inner.Calls.{holding, receipt_behind, receipt_of, code_of, IsProposal}
use Rattle.ghc_trace.specs.Spies.{Spies}
use Rattle.ghc_pool.specs.declared.answer.Answer.{Answer}
use Rattle.ghc_pool.specs.declared.answer.Answer.TheVariants.{Submitted, Noted, Starved}
use Rattle.ghc_pool.specs.declared.answer.RoundStop.{RoundStop}
use Rattle.ghc_pool.specs.declared.answer.RoundStop.TheVariants.{Memory, Limit, Full, Spied, Clash}
use Rattle.ghc_pool.specs.declared.scope.Scope.{Scope}
use Rattle.ghc_pool.specs.declared.scope.Scope.TheVariants.{Any, Of}
use Rattle.ghc_pool.specs.Runs.{IsInQuestion, IsSpiedIn}
use Rattle.ghc_pool.specs.inner.Answers.{Taken}
use Rattle.ghc_pool.specs.inner.Workers.{submits}

-- A round of this scope may step the goal named g: any goal; or those of these names, and those that the step of this number or a later one made.
abbrev pub IsInScope : Scope → GoalName → Type 0
IsInScope Any g = Unit {0}
IsInScope (Of names since) g = In g names.keys ⊎ (since ≤ g.step)

-- What a round of this scope may step is in question, if the round starts in the world w: it may step what is in question there, and what is made since.
abbrev pub Covers : Option GoalName → World → Scope → Type 0
Covers None w scope = Unit {0}
Covers (Some root) w Any = ⊥
Covers (Some root) w (Of names since) = (since ≡ w.next) × ((g : GoalName) → In g names.keys → IsInQuestion (Some root) w.kept g)

-- The submit of the proposal was accepted with this reply. It stands in the front, at the receipt's place, after a history where a commit of what was proposed gets this reply and adds this entry.
pub record StandsIn (front : List Item) (p : Proposal) (r : given.Receipt Reply) : Type 0 where
  pub before : List Item
  pub entry : Entry
  pub place : r.place ≡ length before
  pub accepted : IsAccepted before (holding p) (events.commit 1) (receipt_behind before r.reply) entry
  pub begins : Begins (before ++ entered entry ∷ []) front

-- The reply tells that a goal has this status.
abbrev pub TellsStatus : Status → Reply → Type 0
TellsStatus s reply = (g : GoalName) × (reply_of reply ≡ events.noted g s)

module _ (opened : Gv) where
  -- In some world of the opening with this code the goal named g is a call of a spied predicate.
  abbrev pub IsSpiedGoal : Spies → GoalName → Type 0
  IsSpiedGoal spies g = (w : World) × IsStanding w × (code_of w.opening ≡ opened) × IsSpiedIn spies w g

  -- In some world of the opening a proposal of a step of the goal named g was refused, for another cause than memory.
  abbrev pub IsRefusedGoal : GoalName → Type 0
  IsRefusedGoal g = (w : World) × (f : Fault) × (f ≢ Fault.Memory) × IsProposal opened w g None (Err f)

  -- In some world of the opening memory was refused for a proposal of a step of the goal named g.
  abbrev pub IsStarvedGoal : GoalName → Type 0
  IsStarvedGoal g = (w : World) × IsProposal opened w g None (Err Fault.Memory)

  -- In some world of the opening this step of the goal named g was proposed, and the goal is no call of a spied predicate.
  abbrev pub IsUnspiedStep : Spies → GoalName → Proposal → Type 0
  IsUnspiedStep spies g p = (w : World) × IsProposal opened w g None (Ok p) × (¬ IsSpiedIn spies w g)

  -- Where steps are taken, the goal named g is noted for one of these reasons: the round may not step it; it is a call of a spied predicate; or no step of it could be proposed, and the note does not tell that it is ready.
  abbrev pub IsNotedFor : Scope → Spies → GoalName → Reply → Type 0
  IsNotedFor scope spies g reply = (¬ IsInScope scope g) ⊎ (IsSpiedGoal spies g ⊎ (IsRefusedGoal g × (¬ TellsStatus ready reply)))

  -- IsAnswerOf scope spies steps base front g answer: a worker whose pass had seen `base` and has seen `front` got this answer to the name g. It is a receipt in the front, after all that had been seen. It is of the commit of a step that was proposed of g, which the round may step and which is no call of a spied predicate; accepted, it stands there, else its reply is a refusal. Or it is of a note of g, for which there is a cause where steps are taken. Or memory was refused for the proposal of a step.
  abbrev pub IsAnswerOf : Scope → Spies → Bool → List Item → List Item → GoalName → Answer → Type 0
  IsAnswerOf scope spies steps base front g (Submitted r) =
      (p : Proposal) × IsInScope scope g × IsUnspiedStep spies g p × IsReceipt (Unit {0}) front (holding p) (events.commit 1) (receipt_of r) × (length base ≤ r.place)
      × (r.accepted ≡ true → StandsIn front p r) × (r.accepted ≡ false → IsRefusal (reply_of r.reply))
  IsAnswerOf scope spies steps base front g (Noted r) =
      IsReceipt (Unit {0}) front no_hands (events.note g) (receipt_of r) × (length base ≤ r.place) × (steps ≡ true → IsNotedFor scope spies g r.reply)
  IsAnswerOf scope spies steps base front g Starved = (steps ≡ true) × IsStarvedGoal g

  -- Each name was answered so.
  abbrev pub AreAnswers : Scope → Spies → Bool → List Item → List Item → List Taken → Type 0
  AreAnswers scope spies steps base front [] = Unit {0}
  AreAnswers scope spies steps base front (x ∷ xs) = IsAnswerOf scope spies steps base front x.0 x.1 × AreAnswers scope spies steps base front xs

-- the place of a step alone if its commit was accepted, else no place
abbrev pub places_if : Bool → ℕ → List ℕ
places_if true place = place ∷ []
places_if false place = []

-- the place of the step of which the answer tells, if it tells of one
abbrev pub places_in : Answer → List ℕ
places_in (Submitted r) = places_if r.accepted r.place
places_in (Noted r) = []
places_in Starved = []

-- the places of the steps of which these answers tell, in their order
abbrev pub step_places : List Taken → List ℕ
step_places [] = []
step_places (x ∷ xs) = places_in x.1 ++ step_places xs

-- a count of submits after so many more, up to the greatest count
abbrev pub after_submits : ℕ → ℕ → ℕ
after_submits zero n = n
after_submits (suc k) n = one_more (after_submits k n)

-- IsPassAfter opened scope spies steps start taken now: the pass went on from what it was at the start. It has the answers to the names taken, and made as many submits as they tell of. Its front begins with the one at the start, and the places that it has more are those of the steps of which the answers tell.
pub record IsPassAfter (opened : Gv) (scope : Scope) (spies : Spies) (steps : Bool) (start : Known Item) (taken : List Taken) (now : Known Item) : Type 0 where
  pub number : now.number ≡ start.number
  pub begins : IsPrefix start.front now.front
  pub answers : AreAnswers opened scope spies steps start.front now.front taken
  pub places : now.places ≡ start.places ++ step_places taken
  pub submits : now.submits ≡ after_submits (submits taken) start.submits

-- how many submits were made with these passes, which were so at the start
abbrev pub submits_since : List (Known Item) → List (Known Item) → ℕ
submits_since [] ps = 0
submits_since (s ∷ ss) [] = 0
submits_since (s ∷ ss) (p ∷ ps) = (p.submits - s.submits) + submits_since ss ps

-- Memory was refused for this answer.
abbrev pub IsStarved : Answer → Type 0
IsStarved (Submitted r) = reply_of r.reply ≡ events.refused Fault.Memory
IsStarved (Noted r) = reply_of r.reply ≡ events.refused Fault.Memory
IsStarved Starved = Unit {0}

-- It was refused for none of these.
abbrev pub AreFedAnswers : List Taken → Type 0
AreFedAnswers taken = (x : Taken) → In x taken → ¬ IsStarved x.1

-- The reply to a submit is that no new step has room.
abbrev pub IsToldFull : Answer → Type 0
IsToldFull (Submitted r) = reply_of r.reply ≡ events.refused Fault.Full
IsToldFull (Noted r) = ⊥
IsToldFull Starved = ⊥

-- A note told this status.
abbrev pub IsNotedAs : Status → Answer → Type 0
IsNotedAs s (Submitted r) = ⊥
IsNotedAs s (Noted r) = TellsStatus s r.reply
IsNotedAs s Starved = ⊥

-- The answer to the name g is this reason to stop: no new step has room; the goal was noted as ready, and is a call of a spied predicate; or it was noted as failed.
abbrev pub IsAskedBy : Gv → Spies → GoalName → Answer → RoundStop → Type 0
IsAskedBy opened spies g answer Memory = ⊥
IsAskedBy opened spies g answer Limit = ⊥
IsAskedBy opened spies g answer Full = IsToldFull answer
IsAskedBy opened spies g answer (Spied h) = (h ≡ g) × IsNotedAs ready answer × IsSpiedGoal opened spies g
IsAskedBy opened spies g answer (Clash h) = (h ≡ g) × ((f : Fault) × IsNotedAs (failed f) answer)

-- Steps are taken, and one of the answers is this reason to stop.
abbrev pub Asks : Gv → Spies → Bool → List Taken → RoundStop → Type 0
Asks opened spies steps taken stop = (steps ≡ true) × ((x : Taken) × In x taken × IsAskedBy opened spies x.0 x.1 stop)
