use Rattle.ghc_reader.proofs.Words.{goal_views}
use Rattle.ghc_reader.proofs.read.read_query.Goals as goal

pub returns-clause-answer : goal.returns-clause-answer
returns-clause-answer c = ((goal_views c.in_ok-goals.goals.items, c.in_ok-goals.ensures.found, rw c.deref.ensures.value at c.in_ok-query.ensures), tt)
