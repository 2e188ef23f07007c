use Rattle.ghc_trace.proofs.Words.{◌≤◌, List, length, Option, GoalName, Program, Query, State, Record, Replays}
use Rattle.ghc_trace.specs.inner.BlameCode.{AreCallsOf, AreJudged, StandBelow}
use Rattle.ghc_trace.proofs.CallTops.{AreHandedFrom}
use Rattle.ghc_trace.proofs.tops.last_below.Given as goal

abbrev pub invariant-loop-place : goal.invariant-loop-place
invariant-loop-place l = (l.place ≤ length l.calls.list.items) × StandBelow (length l.calls.list.items) l.last
    × ((P : Program) (query : Query) (rs : List Record) (t : State) (target : Option GoalName) → Replays P query rs t → AreCallsOf rs t target l.calls.list.items → AreJudged l.answers l.judged
    → AreHandedFrom rs t target l.answers l.calls.list.items l.place l.last)

abbrev pub decreases-loop-place : goal.decreases-loop-place
decreases-loop-place l = l.place
