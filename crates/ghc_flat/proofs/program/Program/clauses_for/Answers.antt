use Rattle.ghc_flat.proofs.Words.{sym, subst, ◌∙◌, AreNumbersFor}
use Rattle.ghc_flat.proofs.Numbers.{numbers_for}
use Rattle.ghc_flat.proofs.program.Program.clauses_for.Goals as goal

pub returns : goal.returns
returns c =
    let found = c.numbers.ensures ∙ c.self.invariant.1 c.args.name.now c.args.arity in
    subst (λ P. AreNumbersFor P c.args.name.now c.args.arity c.numbers.result.now) c.self.view_is
    (subst (AreNumbersFor c.self.inside.clauses.items c.args.name.now c.args.arity) (sym found) (numbers_for c.self.inside.clauses.items c.args.name.now c.args.arity))
