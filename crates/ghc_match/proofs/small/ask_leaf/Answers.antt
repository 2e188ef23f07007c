use Rattle.ghc_match.proofs.Words.{rules, to_z-of_z, of_integer}
use mir.Val.{SFits}
use mir.Syntax.{w64}
use Rattle.ghc_match.proofs.small.ask_leaf.Goals as goal

pub returns-in-Var-clause-asked : goal.returns-in-Var-clause-asked
returns-in-Var-clause-asked c = rw (← c.in-Var.ensures.shown) c.ask_variable.ensures.asked

pub returns-in-Int-clause-asked : goal.returns-in-Int-clause-asked
returns-in-Int-clause-asked c =
    let fits : SFits w64 c.in-Int.k = search rules in
    rw (to_z-of_z w64 c.in-Int.k fits, ← c.in-Int.ensures.shown) ((λ x w. absurd w.1), of_integer)
