use Rattle.ghc_trace.proofs.Words.{◌≡◌, Some, sym, ap, ◌∙◌, option_copied, Goals}
use Rattle.std.specs.FinMap as finite
use Rattle.ghc_core.proofs.Redone.{if_ok}
use Rattle.ghc_trace.proofs.BlameTold.{copied_there}
use Rattle.ghc_trace.proofs.blaming.steps_behind_goal.Goals as goal

pub unwrap-goal-requires : goal.unwrap-goal-requires
unwrap-goal-requires c = copied_there c.get.result c.requires.0 (c.get.ensures ∙ ap (λ (m : Goals). finite.get m c.args.name) c.goals.ensures ∙ c.requires.1)

pub returns : goal.returns
returns c = if_ok c.slice_of_goal.result c.slice_of_goal.ensures (λ told s.
    let b = c.unwrap-goal.result.now in
    let is : finite.get c.args.core.now.world.state.goals c.args.name ≡ Some b = ap (λ (m : Goals). finite.get m c.args.name) (sym c.goals.ensures) ∙ sym c.get.ensures ∙ ap option_copied c.unwrap-goal.ensures in
    (s.0, s.1, (b, is, s.2), s.3, λ never. never))
