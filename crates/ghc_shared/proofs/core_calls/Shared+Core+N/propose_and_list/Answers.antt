use Rattle.std.specs.Prelude.{◌⊎◌}
use Rattle.std.proofs.Common.{refl, ap, ◌∙◌, subst}
use Rattle.ghc_term.specs.Lists.{In}
use Rattle.ghc_term.specs.declared.goal_name.GoalName.{GoalName}
use Rattle.ghc_shared.specs.inner.Calls.{LooksAmong}
use Rattle.ghc_shared.proofs.core_calls.Shared+Core+N.propose_and_list.Goals as goal

pub returns-in-Ok-clause-answer : goal.returns-in-Ok-clause-answer
returns-in-Ok-clause-answer g c =
    let made = c.in-Ok.ensures in
    let w = c.get-core.result.now.world in (
      w,
      record { of_opening = c.get-core.ensures.opened; standing = c.stands.ensures.standing; answer = made.answer; no_goal = made.no_goal; no_clause = made.no_clause },
      subst (λ m. (g : GoalName) → In g c.list_woken.new.list.items → In g c.args.woken.now.items ⊎ LooksAmong w m g) (c.binds.ensures ∙ ap (λ e. e.binds) c.effect.ensures) c.list_woken.ensures,
    )

pub returns-clause-answer : goal.returns-clause-answer
returns-clause-answer g c =
    let made = c.in-Err.ensures in (
      c.get-core.result.now.world,
      record { of_opening = c.get-core.ensures.opened; standing = c.stands.ensures.standing; answer = made.answer; no_goal = made.no_goal; no_clause = made.no_clause },
      refl,
    )
