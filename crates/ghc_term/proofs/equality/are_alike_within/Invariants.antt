use Rattle.ghc_term.proofs.Words.{◌↔◌, ◌+◌, ◌≤◌, AreAlike, all_left_nodes}
use Rattle.ghc_term.proofs.equality.are_alike_within.Given as goal

abbrev pub invariant-loop : goal.invariant-loop
invariant-loop l = record {
  alike : AreAlike l.waiting.items ↔ AreAlike l.initial.waiting.items;
  fewer : all_left_nodes l.waiting.items + l.counter ≤ all_left_nodes l.initial.waiting.items;
}
