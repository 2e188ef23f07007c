use Rattle.ghc_reader.proofs.Words.{view}
use Rattle.ghc_reader.proofs.GoalsLowered.{unify_says, unify_meets}
use Rattle.ghc_reader.proofs.lowering.goals.lower_equation.Goals as goal

pub returns-clause-says : goal.returns-clause-says
returns-clause-says c =
    let l = c.in_ok-left in
    let r = c.in_ok-right in
    unify_says (view c.args.left.now) (view c.args.right.now) c.lower_term.new.scope c.lower_term-2.new.scope l.left r.right c.unify.result c.unify.ensures l.ensures.says r.ensures.met r.ensures.says

pub returns-clause-met : goal.returns-clause-met
returns-clause-met c =
    let l = c.in_ok-left in
    let r = c.in_ok-right in
    unify_meets c.args.scope.now c.lower_term.new.scope c.lower_term-2.new.scope l.left r.right c.unify.result c.unify.ensures l.ensures.met r.ensures.met
