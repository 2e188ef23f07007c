use Rattle.ghc_term.proofs.Words.{subst, arith, IsInputTerm}
use Rattle.ghc_term.proofs.Closed.{closed}
use Rattle.ghc_term.proofs.Nesting.{most_open-term}
use Rattle.ghc_term.proofs.ground.Ground.as_term.Goals as goal

pub returns-clause-closed : goal.returns-clause-closed
returns-clause-closed c = closed c.args.self.now (IsInputTerm.grammar (subst IsInputTerm c.self.view_is c.self.invariant))

pub returns-clause-brackets : goal.returns-clause-brackets
returns-clause-brackets c =
    let input = subst IsInputTerm c.self.view_is c.self.invariant in
    omega (arith, most_open-term c.args.self.now (IsInputTerm.grammar input), IsInputTerm.nested input)
