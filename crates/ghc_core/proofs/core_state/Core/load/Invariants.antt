use Rattle.std.proofs.Common.{◌≡◌}
use Rattle.std.specs.FinMap as finite
use Rattle.ghc_core.proofs.Loading.{HasLoaded}
use Rattle.ghc_core.proofs.core_state.Core.load.Given as goal

abbrev pub invariant-loop-index : goal.invariant-loop-index
invariant-loop-index l = record {
  loaded : HasLoaded l.fn.program l.fn.query.goals l.fn.query.variables l.history l.index l.core.world;
  notes : l.core.notes ≡ finite.empty;
  firings : l.core.meter.firings ≡ l.index;
  tries : l.core.meter.tries ≡ 0;
}
