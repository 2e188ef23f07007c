-- Steps that are proposed and submitted at once.
use base.Stored.{Gv}
use Rattle.std.specs.Prelude.{◌≡◌, ◌⊎◌, ℕ, List, length, None, Ok, IsTrue}
use Rattle.ghc_term.specs.declared.goal_name.GoalName.{GoalName}
use Rattle.ghc_term.specs.declared.fault.Fault.{Fault}
use Rattle.ghc_records.specs.Record.{Record}
use Rattle.ghc_records.specs.Journal.{Item}
use Rattle.ghc_core.specs.World.{Proposal, World, emptied, with_step}
use Rattle.ghc_core.specs.Events as events
use Rattle.ghc_core.specs.Answers.{Answers}
use Rattle.ghc_core.specs.Legal.{IsAnswered}
use Rattle.ghc_core.specs.EventCode.{reply_of}
use Rattle.ghc_core.specs.Playing.{tells_change}
use Rattle.ghc_core.specs.declared.reply.Reply.{Reply}
use Rattle.ghc_shared.specs.declared.receipt.Receipt as given
use Rattle.ghc_shared.specs.declared.calls.Call.TheVariants.{Submit}
use Rattle.ghc_shared.specs.Passes.{Known}
use Rattle.ghc_shared.specs.Receipts.{IsDecided}
use Rattle.ghc_shared.specs.inner.Calls.{holding, code_of, receipt_of, IsAnswerTo, IsToldAnyway, IsToldOnFront, IsProposal, ListsWoken}

-- IsTaken w r reply v: in the world w this next step was taken, which leaves the world v, and the reply tells its number; or memory was refused for it, which changes nothing.
abbrev pub IsTaken : World → Record → events.Reply → World → Type 0
IsTaken w r reply v = ((reply ≡ events.stepped r.number) × (v ≡ with_step r w)) ⊎ ((reply ≡ events.refused Fault.Memory) × (v ≡ w))

-- In the world w a step of the goal named g is proposed, and a commit of it gets this reply, which leaves the world v; where it is taken, it makes so many goals. Each name that the list has more is that of a goal that looks where the step binds.
pub record IsAnsweredAtOnce (w : World) (g : GoalName) (reply : Reply) (made : ℕ) (v : World) (old new : List GoalName) : Type 0 where
  pub step : Proposal
  pub proposed : IsProposal (code_of w.opening) w g None (Ok step)
  pub answer : Answers (Unit {0}) w (holding step) (events.commit 1) (reply_of reply) v (emptied 1 (holding step))
  pub anyway : IsToldAnyway w (Submit step) reply
  pub makes : IsTrue (tells_change (reply_of reply)) → made ≡ length step.effect.makes
  pub wakes : ListsWoken w (Ok step) old new

-- In some world of the opening with this code a step of the goal named g was proposed, and a pass submitted it and got this receipt, by the words of a submit; where it was accepted, it makes so many goals. Each name that the list has more is that of a goal that looks where the step binds.
pub record IsStepAtOnce (opened : Gv) (g : GoalName) (receipt : given.Receipt Reply) (made : ℕ) (old new : Known Item) (listed woken : List GoalName) : Type 0 where
  pub world : World
  pub step : Proposal
  pub before : List Item
  pub proposed : IsProposal opened world g None (Ok step)
  pub makes : IsTrue receipt.accepted → made ≡ length step.effect.makes
  pub wakes : ListsWoken world (Ok step) listed woken
  pub decided : IsDecided IsAnswerTo before (Submit step) receipt old new
  pub anyway : IsToldOnFront new.front (Submit step) receipt
  pub answered : IsAnswered (Unit {0}) old.front new.front (holding step) (events.commit 1) (receipt_of receipt)
