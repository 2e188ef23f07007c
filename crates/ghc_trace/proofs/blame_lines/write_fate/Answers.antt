use Rattle.ghc_trace.proofs.Words.{codes, refl, inl, inr}
use Rattle.ghc_trace.proofs.CausePlaces.{on_ok}
use Rattle.ghc_trace.proofs.blame_lines.write_fate.Goals as goal

pub returns-in-Some-clause-text : goal.returns-in-Some-clause-text
returns-in-Some-clause-text c = on_ok c.write_goal.result c.write_goal.ensures.text (λ (text, shown, eq). (codes " gave ", text, inl ((c.in-Some.field-0, c.in-Some.ensures.found.0, c.in-Some.ensures.found.1, c.in-Some.ensures.found.2), refl), shown, eq))

pub returns-in-None-clause-text : goal.returns-in-None-clause-text
returns-in-None-clause-text c = on_ok c.write_goal-in-None.result c.write_goal-in-None.ensures.text (λ (text, shown, eq). (codes " stands ", text, inr (c.in-None.ensures.none, refl), shown, eq))
