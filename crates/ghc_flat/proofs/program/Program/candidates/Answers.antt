use Rattle.ghc_flat.proofs.Words.{subst, option_copied, AreNumbersWith}
use Rattle.ghc_flat.proofs.program.Program.candidates.Goals as goal

pub returns : goal.returns
returns c =
    subst (λ P. AreNumbersWith P c.args.name.now c.args.arity (option_copied c.args.end) c.candidates.result) c.self.view_is
    (c.candidates.ensures c.self.inside.clauses.items c.self.invariant.1 c.self.invariant.2)
