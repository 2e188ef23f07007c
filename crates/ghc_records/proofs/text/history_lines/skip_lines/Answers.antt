use Rattle.ghc_records.proofs.Words.{◌∙◌, rules, pieces_of}
use Rattle.ghc_records.proofs.CutLemmas.{drop_next, none_behind}
use Rattle.ghc_records.proofs.text.history_lines.skip_lines.Goals as goal

pub loop-index-preserved : goal.loop-index-preserved
loop-index-preserved c = drop_next (pieces_of c.args.text.now) c.loop-index._index _ _ (c.loop-index.invariant ∙ c.in-Some.ensures.found)

pub returns-in_default-clause-none : goal.returns-in_default-clause-none
returns-in_default-clause-none c = none_behind (pieces_of c.args.text.now) c.loop-index._index c.args.count _ (c.loop-index.invariant ∙ c.in_default.ensures.none) (search rules)
