use Rattle.ghc_shared.proofs.core_calls.Shared+Core+N.propose.Goals as goal

pub returns-clause-answer : goal.returns-clause-answer
returns-clause-answer g c = (
  c.get-core.result.now.world,
  record { of_opening = c.get-core.ensures.opened; standing = c.stands.ensures.standing; answer = c.attempt.ensures.answer; no_goal = c.attempt.ensures.no_goal; no_clause = c.attempt.ensures.no_clause },
)
