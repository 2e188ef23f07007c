use Rattle.ghc_trace.proofs.Words.{◌≡◌, List, length, take, Option, GoalName, State, Record}
use Rattle.ghc_trace.specs.inner.BlameCode.{AreCallsOf, AreToldWrong, StandAtTheirPlaces}
use Rattle.ghc_trace.proofs.answered.told_wrong_last.Given as goal

abbrev pub invariant-loop-index : goal.invariant-loop-index
invariant-loop-index l = (length l.wrong.items ≡ length l.calls.list.items) × StandAtTheirPlaces l.wrong.items
    × ((rs : List Record) (t : State) (target : Option GoalName) → AreCallsOf rs t target l.calls.list.items → AreToldWrong l.calls.list.items (take l.index l.answers) l.wrong.items)
