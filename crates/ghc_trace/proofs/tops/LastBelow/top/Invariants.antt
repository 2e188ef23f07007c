use Rattle.ghc_trace.proofs.Words.{◌<◌, List, length, Option, GoalName, State, Record}
use Rattle.std.specs.Prelude.{IfSome}
use Rattle.ghc_trace.specs.declared.judgements.Answer.{Answer}
use Rattle.ghc_trace.specs.declared.slice_calls.Call.{Call}
use Rattle.ghc_trace.specs.inner.BlameCode.{AreLastBelow}
use Rattle.ghc_trace.proofs.CallTops.{IsOnTheWay, left_from}
use Rattle.ghc_trace.proofs.tops.LastBelow.top.Given as goal

abbrev pub invariant-loop-next : goal.invariant-loop-next
invariant-loop-next l = IfSome l.next (λ w. w.call < length l.self.calls.items)
    × ((rs : List Record) (t : State) (target : Option GoalName) (told : List Answer) (calls : List Call) → AreLastBelow rs t target told calls l.self → IsOnTheWay rs t target told calls l.top l.next)

abbrev pub decreases-loop-next : goal.decreases-loop-next
decreases-loop-next l = left_from (length l.self.calls.items) l.next
