use Rattle.ghc_reader.proofs.Words.{goal_views}
use Rattle.ghc_reader.proofs.read.read_body.Goals as goal

pub returns : goal.returns
returns c = ((goal_views c.in_ok-goals.goals.items, c.in_ok-goals.ensures.found, rw c.deref.ensures.value at c.in_ok-asked.ensures), tt)
