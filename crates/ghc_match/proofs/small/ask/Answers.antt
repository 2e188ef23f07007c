use Rattle.ghc_match.proofs.small.ask.Goals as goal

pub returns-in-Leaf-clause-asked : goal.returns-in-Leaf-clause-asked
returns-in-Leaf-clause-asked c = rw c.in-Leaf.is c.ask_leaf.ensures.asked

pub returns-in-Operation-clause-asked : goal.returns-in-Operation-clause-asked
returns-in-Operation-clause-asked c = rw c.in-Operation.is c.ask_operation.ensures.asked
