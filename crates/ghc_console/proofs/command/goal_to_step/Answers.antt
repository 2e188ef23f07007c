use Rattle.std.proofs.Common.{◌∙◌, ap, bytes_eq, sym}
use Rattle.ghc_console.proofs.StepLines.{line_of_step}
use Rattle.ghc_console.proofs.command.goal_to_step.Goals as goal

pub returns-then-eq : goal.returns-then-eq
returns-then-eq c =
    let name = c.split_at.result.0.now in
    let is = ap (bytes_eq name) (sym c.as_slice.ensures) ∙ sym c.eq.ensures ∙ c.if-eq.true in
    line_of_step c.args.line.now name c.split_at.result.1.now c.goal_name.result c.split_at.ensures.front c.split_at.ensures.back is c.goal_name.ensures
