use Rattle.ghc_trace.proofs.Words.{◌≡◌, List, length, Option, GoalName, Program, Query, State, Record, Replays}
use Rattle.ghc_trace.specs.declared.judgements.Answer.{Answer}
use Rattle.ghc_trace.specs.inner.BlameCode.{AreCallsOf, AreJudged, IsNameOfTop}
use Rattle.ghc_trace.proofs.CallsBelow.{AreSaidOf}
use Rattle.ghc_trace.proofs.questions.in_question.Given as goal

abbrev pub invariant-loop-call : goal.invariant-loop-call
invariant-loop-call l = (length l.doubts.items ≡ l.call-index)
    × ((P : Program) (query : Query) (rs : List Record) (t : State) (target : Option GoalName) (told : List Answer) (name : Option GoalName) → Replays P query rs t → AreCallsOf rs t target l.calls.list.items
    → AreJudged told l.judged → IsNameOfTop l.calls.list.items l.top name → AreSaidOf rs t target told name l.calls.list.items l.doubts.items)
