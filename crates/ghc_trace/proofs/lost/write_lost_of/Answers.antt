use Rattle.ghc_trace.proofs.Words.{List, Picks, Record, subst}
use Rattle.ghc_trace.specs.inner.WhyNotCode.{LetsGoOf}
use Rattle.ghc_trace.proofs.CausePlaces.{on_ok}
use Rattle.ghc_trace.proofs.LostSteps.{lost_are}
use Rattle.ghc_trace.proofs.lost.write_lost_of.Goals as goal

pub returns : goal.returns
returns c =
    let w = c.args.core.now.world in
    let xs = c.in_ok-reaching.reaching in
    on_ok c.write_steps.result c.write_steps.ensures (λ told. (
      told.0,
      lost_are w c.args.lost c.args.parents.now c.requires xs c.in_ok-reaching.ensures told.0 (subst (λ (l : List Record). Picks (LetsGoOf xs) l told.0) c.records.ensures told.1),
      told.2,
    ))
