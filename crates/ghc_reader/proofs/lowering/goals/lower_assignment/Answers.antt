use Rattle.ghc_reader.proofs.Words.{value_view}
use Rattle.ghc_reader.proofs.GoalsLowered.{assign_says}
use Rattle.ghc_reader.proofs.lowering.goals.lower_assignment.Goals as goal

pub returns-clause-says : goal.returns-clause-says
returns-clause-says c =
    let x = c.in_ok-variable in
    let r = c.in_ok-value in
    assign_says c.args.name.now (value_view c.args.value.now) c.variable.new.self c.lower_expression.new.scope x.variable c.variable-2.result r.value c.assign.result c.assign.ensures c.variable-2.ensures x.ensures.called r.ensures.met r.ensures.says
