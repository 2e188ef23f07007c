use Rattle.ghc_core.proofs.Words.{◌≡◌, map, take, after_firings, firings_of_entries, CarriesOutEach, said_by}
use Rattle.std.specs.FinMap as finite
use Rattle.ghc_core.proofs.core_state.Core.carry_out_each.Given as goal

abbrev pub invariant-loop-index : goal.invariant-loop-index
invariant-loop-index l = record {
  carried : CarriesOutEach l.initial.self.world (map said_by (take l.index l.entries)) l.self.world;
  meter : l.self.meter ≡ after_firings (firings_of_entries (map said_by (take l.index l.entries))) l.initial.self.meter;
  notes : l.initial.self.notes ≡ finite.empty → l.self.notes ≡ finite.empty;
}
