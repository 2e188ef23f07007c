use Rattle.ghc_trace.proofs.Words.{◌++◌, codes, refl, inl, inr}
use Rattle.ghc_trace.proofs.CausePlaces.{on_ok}
use Rattle.ghc_trace.proofs.blame_lines.write_call_given.Goals as goal

pub returns-in-Some-clause-text : goal.returns-in-Some-clause-text
returns-in-Some-clause-text c = on_ok c.write_taken.result c.write_taken.ensures.text (λ tells rs t about.
    let q = tells rs t about in
    (q.0 ++ (codes "gave " ++ (q.1 ++ codes "\n")), inl (c.in-Some.field-0, q.0, q.1, c.in-Some.is, q.2, q.3, refl), q.4))

pub returns-in-None-clause-text : goal.returns-in-None-clause-text
returns-in-None-clause-text c = on_ok c.write_given_here.result c.write_given_here.ensures.text (λ tells rs t about. let q = tells rs t about in (q.0, inr (c.in-None.is, q.1), q.2))
