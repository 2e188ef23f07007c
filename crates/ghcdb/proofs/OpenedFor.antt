-- What a session begins with does not depend on how many workers make its runs.
use Rattle.ghcdb.proofs.CitedWords.{◌≡◌, ℕ, List, ap, subst, subst₂, sym, Option, Debugger, IsDebuggerOf, OpensOn}
use Rattle.ghc_reader.specs.ClauseLines.{AreClauseLines}

pub opened_for : (program query : List ℕ) (history : Option (List ℕ)) (d e : Debugger) → e.core ≡ d.core → e.spies ≡ d.spies → e.clause_lines ≡ d.clause_lines → IsDebuggerOf program query history d → IsDebuggerOf program query history e
opened_for program query history d e core spies lines o = record {
  started = o.started;
  starts = o.starts;
  opens = subst₂ (λ w s. OpensOn o.started history w s) (sym (ap (λ c. c.world) core)) (sym spies) o.opens;
  lines = subst (AreClauseLines program) (sym lines) o.lines;
}
