use Rattle.ghc_trace.proofs.Words.{◌≡◌, ◌++◌, string_bytes, List, StartsWith, Named, AddsLines, lent}
use Rattle.ghc_trace.proofs.goal_lines.write_lines.Given as goal

abbrev pub invariant-loop-name : goal.invariant-loop-name
invariant-loop-name l = record {
  rest : (done : List Named) × (lent l.goals.entries ≡ done ++ lent l.name-iterator) × AddsLines l.tries.notes l.store.held done (string_bytes l.fn.out) (string_bytes l.out);
  begun : StartsWith (string_bytes l.out) (string_bytes l.fn.out);
}
