use Rattle.ghc_flat.proofs.Words.{◌∙◌}
use Rattle.ghc_flat.proofs.firsts.Firsts.of.Goals as goal

pub loop-clause-preserved : goal.loop-clause-preserved
loop-clause-preserved c = c.in_ok-add_table.ensures _ _ (c.numbers-numbers.ensures ∙ c.requires _ _) c.loop-clause.invariant
