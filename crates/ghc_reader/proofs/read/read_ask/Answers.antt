use Rattle.ghc_reader.proofs.Words.{goal_views}
use Rattle.ghc_reader.proofs.AskReadings.{within_query}
use Rattle.ghc_reader.proofs.read.read_ask.Goals as goal

pub lower_ask-requires : goal.lower_ask-requires
lower_ask-requires c = rw c.deref.ensures.value (within_query (goal_views c.in_ok-goals.goals.items) c.in_ok-goals.ensures.found.within)

pub returns-clause-answer : goal.returns-clause-answer
returns-clause-answer c = ((goal_views c.in_ok-goals.goals.items, c.in_ok-goals.ensures.found, rw c.deref.ensures.value at c.in_ok-asked.ensures), tt)
