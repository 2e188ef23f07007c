-- What is to be done with a goal, and what comes of it.
use Rattle.std.specs.Prelude.{◌≡◌, ℕ, ◌≤◌, ◌++◌, List, [], ◌∷◌, length, Bool, true, Option, Some, None, Result, Ok}
use Rattle.std.specs.FinSet as set
use base.Stored.{Gv}
use Rattle.ghc_term.specs.declared.goal_name.GoalName.{GoalName}
use Rattle.ghc_term.specs.declared.fault.Fault.{Fault}
use Rattle.ghc_term.specs.Lists.{In}
use Rattle.ghc_records.specs.Journal.{Item}
use Rattle.ghc_hooks.specs.Status.{ready, failed}
use Rattle.ghc_core.specs.World.{World, Proposal}
use Rattle.ghc_core.specs.Excerpt.{Excerpt}
use Rattle.ghc_core.specs.Events as events
use Rattle.ghc_core.specs.EventCode.{reply_of}
use Rattle.ghc_core.specs.declared.reply.Reply.{Reply}
use Rattle.ghc_core.specs.declared.reply.Reply.TheVariants.{Held, Stepped, Noted, Undone, Arranged, Refused}
use Rattle.ghc_shared.specs.Passes.{Known}
use Rattle.ghc_shared.specs.inner.Calls.{IsProposal, LooksWhereBound, code_of}
use Rattle.ghc_trace.specs.Spies.{Spies}
use Rattle.ghc_pool.specs.declared.answer.Answer.{Answer}
use Rattle.ghc_pool.specs.declared.answer.RoundStop.{RoundStop}
use Rattle.ghc_pool.specs.declared.answer.RoundStop.TheVariants.{Memory, Limit, Full, Spied, Clash}
use Rattle.ghc_pool.specs.declared.craft.Decided.{Decided}
use Rattle.ghc_pool.specs.declared.deciding.Plan.{Plan}
use Rattle.ghc_pool.specs.declared.deciding.Plan.TheVariants.{Submit, Outside, Pass, Refuse, Starve}
use Rattle.ghc_pool.specs.declared.scope.Scope.{Scope}
use Rattle.ghc_pool.specs.inner.Answers.{Taken, submits_in, one_if, IsReason}
use Rattle.ghc_pool.specs.inner.Told.{IsInScope, TellsStatus, IsSpiedGoal, IsRefusedGoal, IsStarvedGoal, IsUnspiedStep, IsPassAfter, AreFedAnswers, Asks}

-- Each of these goals looks where a step binds that was proposed of the goal named g, in a world of the opening.
abbrev pub AreWokenOf : Gv → GoalName → List GoalName → Type 0
AreWokenOf opened g woken = (h : GoalName) → In h woken → (w : World) × (p : Proposal) × IsProposal opened w g None (Ok p) × LooksWhereBound w p h

-- A step of the goal, which the round may step, is there to be submitted, with goals that look where it binds. Or there is none: the round may not step the goal; or it is a call of a spied predicate, and passed over; or no step of it could be proposed; or memory was refused for that.
abbrev pub IsPlan : Gv → Scope → Spies → GoalName → Plan → Type 0
IsPlan opened scope spies g (Submit p woken) = IsInScope scope g × IsUnspiedStep opened spies g p × AreWokenOf opened g woken.items
IsPlan opened scope spies g Outside = ¬ IsInScope scope g
IsPlan opened scope spies g Pass = IsSpiedGoal opened spies g
IsPlan opened scope spies g Refuse = IsRefusedGoal opened g
IsPlan opened scope spies g Starve = IsStarvedGoal opened g

-- Steps are taken, the round may step the goal named g, and nothing is spied. So a step of it may be taken with no look at its predicate.
abbrev pub IsPlain : Scope → Spies → Bool → GoalName → Type 0
IsPlain scope spies steps g = (steps ≡ true) × IsInScope scope g × (spies ≡ set.empty)

-- The excerpt is one of the goal named g, of a world of the opening, and the goal is plain.
abbrev pub IsExcerptOf : Gv → Scope → Spies → Bool → GoalName → Excerpt → Type 0
IsExcerptOf opened scope spies steps g e = IsPlain scope spies steps g × (code_of e.world.opening ≡ opened) × (e.goal ≡ g)

-- This is what an attempt at the goal named g answers, in some world of the opening, and the goal is plain.
abbrev pub IsAttempt : Gv → Scope → Spies → Bool → GoalName → Result Proposal Fault → Type 0
IsAttempt opened scope spies steps g answer = IsPlain scope spies steps g × ((w : World) × IsProposal opened w g None answer)

-- The reply says that memory was refused.
abbrev pub SaysMemory : Reply → Type 0
SaysMemory reply = reply_of reply ≡ events.refused Fault.Memory

-- The reply to a submit is this reason to stop, or none.
abbrev pub IsSubmitStop : Reply → Option RoundStop → Type 0
IsSubmitStop reply None = ¬ SaysMemory reply
IsSubmitStop reply (Some Memory) = Unit {0}
IsSubmitStop reply (Some Limit) = ⊥
IsSubmitStop reply (Some Full) = reply_of reply ≡ events.refused Fault.Full
IsSubmitStop reply (Some (Spied g)) = ⊥
IsSubmitStop reply (Some (Clash g)) = ⊥

-- The reply to a note where no steps are taken is this reason to stop, or none.
abbrev pub IsSettlingStop : Reply → Option RoundStop → Type 0
IsSettlingStop reply None = ¬ SaysMemory reply
IsSettlingStop reply (Some Memory) = Unit {0}
IsSettlingStop reply (Some Limit) = ⊥
IsSettlingStop reply (Some Full) = ⊥
IsSettlingStop reply (Some (Spied g)) = ⊥
IsSettlingStop reply (Some (Clash g)) = ⊥

-- The reply to a note of the goal named g, which is spied or may not be, is this reason to stop, or none.
abbrev pub IsNoteStop : Bool → GoalName → Reply → Option RoundStop → Type 0
IsNoteStop spied g reply None = ¬ SaysMemory reply
IsNoteStop spied g reply (Some Memory) = Unit {0}
IsNoteStop spied g reply (Some Limit) = ⊥
IsNoteStop spied g reply (Some Full) = ⊥
IsNoteStop spied g reply (Some (Spied h)) = (spied ≡ true) × (h ≡ g) × TellsStatus ready reply
IsNoteStop spied g reply (Some (Clash h)) = (h ≡ g) × ((f : Fault) × TellsStatus (failed f) reply)

-- the number of the step that the reply tells of; 0 where it tells of none
abbrev pub step_in : Reply → ℕ
step_in (Held h) = 0
step_in (Stepped n) = n
step_in (Noted g verdict) = 0
step_in (Undone ns) = 0
step_in Arranged = 0
step_in (Refused f) = 0

-- so many goals, where the reply tells of a step; else none
abbrev pub made_if_stepped : Reply → ℕ → ℕ
made_if_stepped (Held h) made = 0
made_if_stepped (Stepped n) made = made
made_if_stepped (Noted g verdict) made = 0
made_if_stepped (Undone ns) made = 0
made_if_stepped Arranged made = 0
made_if_stepped (Refused f) made = 0

-- The answer to the name g tells of the step of this number, which makes as many goals as a step of g that was proposed; or it tells of no step: then the number is 0, and no goal is made.
abbrev pub TellsStep : Gv → GoalName → Answer → ℕ → ℕ → Type 0
TellsStep opened g (Answer.Submitted r) step made = (step ≡ step_in r.reply) × ((w : World) × (p : Proposal) × IsProposal opened w g None (Ok p) × (made ≡ made_if_stepped r.reply (length p.effect.makes)))
TellsStep opened g (Answer.Noted r) step made = (step ≡ 0) × (made ≡ 0)
TellsStep opened g Answer.Starved step made = (step ≡ 0) × (made ≡ 0)

module _ (opened : Gv) (scope : Scope) (spies : Spies) (steps : Bool) where
  -- A pass that went on so far goes on with no answer more.
  abbrev pub GoesOnWithout : Known Item → Known Item → Type 0
  GoesOnWithout old new = (start : Known Item) (taken : List Taken) → IsPassAfter opened scope spies steps start taken old → IsPassAfter opened scope spies steps start taken new

  -- The goal named g was decided: a pass that went on so far goes on with this answer. It tells of a submit at most, and of none where no steps are taken. The reason to stop, if there is one, is this answer's. The step that it tells of, if it tells of one, makes so many goals. What is woken looks where a step of the goal binds that was proposed.
  pub record IsDecidedAs (g : GoalName) (old new : Known Item) (d : Decided) : Type 0 where
    pub told : (start : Known Item) (taken : List Taken) → IsPassAfter opened scope spies steps start taken old → IsPassAfter opened scope spies steps start (taken ++ (g, d.answer) ∷ []) new
    pub submits : submits_in d.answer ≤ one_if steps
    pub reason : IsReason AreFedAnswers (Asks opened spies steps) d.stop ((g, d.answer) ∷ [])
    pub makes : TellsStep opened g d.answer d.step d.made
    pub woken : AreWokenOf opened g d.woken.items
