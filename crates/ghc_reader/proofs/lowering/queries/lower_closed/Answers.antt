use Rattle.ghc_reader.proofs.Words.{IfOk-weaker, view}
use Rattle.ghc_reader.proofs.ClausesLowered.{closed_says}
use Rattle.ghc_reader.proofs.lowering.queries.lower_closed.Goals as goal

pub returns : goal.returns
returns c = IfOk-weaker c.lower_term.result _ _ (λ u h. closed_says (view c.args.term.now) c.lower_term.new.scope u c.requires h) c.lower_term.ensures.says
