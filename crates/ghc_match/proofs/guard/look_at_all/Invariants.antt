use Rattle.ghc_match.proofs.Words.{take, IsTrue, ◌↔◌, VarName, value_at, Wants, StandsAndEnds, Gains, PassedFrom}
use Rattle.ghc_match.proofs.guard.look_at_all.Given as goal

abbrev pub invariant-loop-name : goal.invariant-loop-name
invariant-loop-name l = record {
  says : IsTrue l.waits ↔ ((x : VarName) × Wants (StandsAndEnds l.stands (value_at l.store.held)) (take l.name-index l.names) x);
  wants : Gains l.initial.wanted l.wanted (Wants (StandsAndEnds l.stands (value_at l.store.held)) (take l.name-index l.names));
  looks : Gains l.initial.looked l.looked (PassedFrom l.stands (value_at l.store.held) (take l.name-index l.names));
}
