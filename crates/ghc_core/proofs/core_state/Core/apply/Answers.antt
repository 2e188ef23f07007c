use Rattle.ghc_core.proofs.core_state.Core.apply.Goals as goal

pub returns-in-Comes-clause-notes : goal.returns-in-Comes-clause-notes
returns-in-Comes-clause-notes c = rw c.in-Comes.is c.add.ensures.notes

pub returns-in-Goes-clause-notes : goal.returns-in-Goes-clause-notes
returns-in-Goes-clause-notes c = rw c.in-Goes.is c.take_away.ensures.notes

pub returns-in-Reorders-clause-notes : goal.returns-in-Reorders-clause-notes
returns-in-Reorders-clause-notes c = rw c.in-Reorders.is c.put_in_order.ensures.left
