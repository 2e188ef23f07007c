use Rattle.std.proofs.Common.{◌≡◌, sym, subst, ◌∙◌, None}
use Rattle.std.specs.FinMap as finite
use Rattle.ghc_core.proofs.Loading.{impossible_gone}
use Rattle.ghc_core.proofs.saved.load.fire_step.Goals as goal

pub returns-in-None-clause-none : goal.returns-in-None-clause-none
returns-in-None-clause-none c =
    impossible_gone c.args.program.now c.args.state.now.held c.args.step.now c.in-Some.name (sym c.goal.ensures ∙ c.in-Some.is)
    (subst (λ m. finite.get m c.in-Some.name ≡ None) c.goals.ensures (sym c.in-None.ensures))
