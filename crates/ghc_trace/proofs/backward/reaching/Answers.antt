use Rattle.ghc_trace.proofs.Words.{value_at}
use Rattle.std.proofs.lemmas.Result.{IfOk-weaker}
use Rattle.ghc_trace.proofs.Ancestors.{ancestors_reach}
use Rattle.ghc_trace.proofs.backward.reaching.Goals as goal

pub returns : goal.returns
returns c =
    IfOk-weaker c.ancestors_of.result _ _ (λ xs is. ancestors_reach (value_at c.args.store.now.held) c.args.among.now c.in_ok-parents.parents c.args.y c.in_ok-parents.ensures c.requires xs is) c.ancestors_of.ensures
