use Rattle.ghc_trace.proofs.Words.{◌≤◌, List, length, take, Option, GoalName, Program, Query, State, Record, Replays}
use Rattle.std.specs.List.{sum}
use Rattle.ghc_trace.specs.declared.judgements.Answer.{Answer}
use Rattle.ghc_trace.specs.inner.BlameCode.{AreCallsOf, AreInQuestion, AreWeightsWithin, count_open}
use Rattle.ghc_trace.proofs.CallWeights.{AreCountedFrom}
use Rattle.ghc_trace.proofs.next_question.weights_of.Given as goal

abbrev pub invariant-loop-place : goal.invariant-loop-place
invariant-loop-place l = (l.place ≤ length l.doubts) × AreWeightsWithin l.doubts l.weights.items × (sum (take l.place l.weights.items) ≤ count_open l.doubts)
    × ((P : Program) (query : Query) (rs : List Record) (t : State) (target : Option GoalName) (told : List Answer) (top : Option GoalName) → Replays P query rs t → AreCallsOf rs t target l.calls.list.items
    → AreInQuestion rs t target told top l.calls.list.items l.doubts → AreCountedFrom rs t target told top l.calls.list.items l.doubts l.place l.weights.items)

abbrev pub decreases-loop-place : goal.decreases-loop-place
decreases-loop-place l = l.place
