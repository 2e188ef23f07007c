use Rattle.ghc_reader.specs.inner.Views.{value_view}
use Rattle.ghc_reader.proofs.ClausesLowered.{compare_says, compare_meets}
use Rattle.ghc_reader.proofs.lowering.guards.lower_guard.Goals as goal

pub returns-in_ok-right-in-Compare-clause-says : goal.returns-in_ok-right-in-Compare-clause-says
returns-in_ok-right-in-Compare-clause-says c =
    let t = c.in-Compare in
    let l = c.in_ok-left-in-Compare in
    let r = c.in_ok-right-in-Compare in
    compare_says c.args.test.now t.left t.right t.comparison c.lower_expression.new.scope c.lower_expression-in-Compare.new.scope l.left r.right t.is l.ensures.says r.ensures.met r.ensures.says

pub returns-in_ok-right-in-Compare-clause-met : goal.returns-in_ok-right-in-Compare-clause-met
returns-in_ok-right-in-Compare-clause-met c =
    let t = c.in-Compare in
    let l = c.in_ok-left-in-Compare in
    let r = c.in_ok-right-in-Compare in
    compare_meets (value_view t.left) (value_view t.right) t.comparison c.args.scope.now c.lower_expression.new.scope c.lower_expression-in-Compare.new.scope l.left r.right l.ensures.says r.ensures.says l.ensures.met r.ensures.met
