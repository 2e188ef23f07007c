use Rattle.ghc_records.proofs.Words.{◌≡◌, ◌≤◌, map, number_limit, pieces_of, AreInTurn, next_behind, SaysEntry, said_by}
use Rattle.ghc_records.proofs.SectionLemmas.{HasRead}
use Rattle.ghc_records.proofs.text.entries_reading.read_entries.Given as goal

abbrev pub invariant-loop-index : goal.invariant-loop-index
invariant-loop-index l = record {
  read : HasRead SaysEntry (AreInTurn l.next) (pieces_of l.text) l.index l.rest (map said_by l.entries.items);
  turn : l.turn ≡ next_behind l.next (map said_by l.entries.items);
  small : l.turn ≤ number_limit;
}
