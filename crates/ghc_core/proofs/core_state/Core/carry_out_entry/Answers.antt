use Rattle.ghc_core.proofs.Words.{sym, ap, ◌∙◌, subst, reordered, arrange, said_by}
use Rattle.ghc_core.proofs.Redone.{if_ok}
use Rattle.ghc_core.proofs.Resuming.{IsCommandOf, for_undo, for_roll, for_redo, for_arrange, command_carried, command_refused}
use Rattle.ghc_core.proofs.core_state.Core.carry_out_entry.Goals as goal

pub returns-in-Took-clause-carried : goal.returns-in-Took-clause-carried
returns-in-Took-clause-carried c = rw c.in-Took.is c.take_again.ensures.carried

pub returns-in-Took-clause-refused : goal.returns-in-Took-clause-refused
returns-in-Took-clause-refused c = rw c.in-Took.is c.take_again.ensures.refused

pub returns-in-Undid-clause-carried : goal.returns-in-Undid-clause-carried
returns-in-Undid-clause-carried c =
    rw c.in-Undid.is (if_ok _ c.command_again.ensures.carried (λ yes. command_carried for_undo c.stands.ensures.standing))

pub returns-in-Undid-clause-refused : goal.returns-in-Undid-clause-refused
returns-in-Undid-clause-refused c = rw c.in-Undid.is (if_ok _ c.command_again.ensures.refused (λ yes. command_refused for_undo))

pub returns-in-Rolled-clause-carried : goal.returns-in-Rolled-clause-carried
returns-in-Rolled-clause-carried c =
    rw c.in-Rolled.is (if_ok _ c.command_again-in-Rolled.ensures.carried (λ yes. command_carried for_roll c.stands.ensures.standing))

pub returns-in-Rolled-clause-refused : goal.returns-in-Rolled-clause-refused
returns-in-Rolled-clause-refused c = rw c.in-Rolled.is (if_ok _ c.command_again-in-Rolled.ensures.refused (λ yes. command_refused for_roll))

pub returns-in-Redid-clause-carried : goal.returns-in-Redid-clause-carried
returns-in-Redid-clause-carried c =
    rw c.in-Redid.is (if_ok _ c.command_again-in-Redid.ensures.carried (λ yes. command_carried for_redo c.stands.ensures.standing))

pub returns-in-Redid-clause-refused : goal.returns-in-Redid-clause-refused
returns-in-Redid-clause-refused c = rw c.in-Redid.is (if_ok _ c.command_again-in-Redid.ensures.refused (λ yes. command_refused for_redo))

-- the command is that of the entry
of_entry : (c : goal.After-command_again-in-Reordered) → IsCommandOf (said_by c.args.entry.now) (arrange c.of-order.result)
of_entry c =
    let order = c.of-order.ensures ∙ c.in_ok-numbers_again-in-Reordered.ensures ∙ c.as_slice.ensures.value in
    subst (λ e. IsCommandOf e (arrange c.of-order.result)) (ap reordered order ∙ ap said_by (sym c.in-Reordered.is)) for_arrange

pub returns-in_ok-numbers_again-in-Reordered-clause-carried : goal.returns-in_ok-numbers_again-in-Reordered-clause-carried
returns-in_ok-numbers_again-in-Reordered-clause-carried c =
    if_ok _ c.command_again-in-Reordered.ensures.carried (λ yes. command_carried (of_entry c) c.stands.ensures.standing)

pub returns-in_ok-numbers_again-in-Reordered-clause-refused : goal.returns-in_ok-numbers_again-in-Reordered-clause-refused
returns-in_ok-numbers_again-in-Reordered-clause-refused c =
    if_ok _ c.command_again-in-Reordered.ensures.refused (λ yes. command_refused (of_entry c))
