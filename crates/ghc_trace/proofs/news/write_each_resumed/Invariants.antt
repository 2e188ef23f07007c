use Rattle.ghc_trace.proofs.Words.{drop, string_bytes, StartsWith, WaitsWhereBound, resumed_text}
use Rattle.ghc_trace.proofs.Writing.{IsWritten}
use Rattle.ghc_trace.proofs.news.write_each_resumed.Given as goal

abbrev pub invariant-loop-goal : goal.invariant-loop-goal
invariant-loop-goal l = record {
  rest : IsWritten (λ e. WaitsWhereBound l.fn.step e.1) (resumed_text) l.goals (drop l.goal-index l.goals) (string_bytes l.out) (string_bytes l.fn.out);
  begun : StartsWith (string_bytes l.out) (string_bytes l.fn.out);
}
