use Rattle.ghc_trace.proofs.Words.{List, take, Program, Query, State, Record, Replays}
use Rattle.ghc_trace.specs.Blaming.{IsCallTaken}
use Rattle.ghc_trace.specs.inner.BlameCode.{AreCallsBy, AreFound}
use Rattle.ghc_trace.specs.inner.PartsCode.{AreKeptAs}
use Rattle.ghc_trace.proofs.slice_calls.taken_calls.Given as goal

abbrev pub invariant-loop-number : goal.invariant-loop-number
invariant-loop-number l = AreFound l.found.list.items l.found.takers
    × ((P : Program) (query : Query) (rs : List Record) (t : State) → AreKeptAs l.records.held rs l.steps → Replays P query rs t → AreCallsBy rs (IsCallTaken (take l.number-index rs)) l.found.list.items)
