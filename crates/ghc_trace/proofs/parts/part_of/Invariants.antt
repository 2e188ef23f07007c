use Rattle.ghc_trace.proofs.Words.{List, take, Program, Query, State, Record, Replays}
use Rattle.ghc_trace.specs.inner.PartsCode.{AreKeptAs}
use Rattle.ghc_trace.proofs.PartSteps.{AreOfPart}
use Rattle.ghc_trace.proofs.parts.part_of.Given as goal

abbrev pub invariant-loop-number : goal.invariant-loop-number
invariant-loop-number l =
    (P : Program) (query : Query) (rs : List Record) (t : State) → AreKeptAs l.records.held rs l.steps → Replays P query rs t → AreOfPart rs l.goal (take l.number-index rs) l.part.keys
