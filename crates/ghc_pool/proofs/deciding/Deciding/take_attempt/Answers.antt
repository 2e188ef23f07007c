use Rattle.ghc_pool.proofs.Spied.{nothing_spied}
use Rattle.ghc_pool.proofs.deciding.Deciding.take_attempt.Goals as goal

pub submit-requires-clause-proposed : goal.submit-requires-clause-proposed
submit-requires-clause-proposed g c =
    let plain = c.requires.0 in
    let said = rw c.in-Ok.is at c.requires.1 in
    (said.0, said.1, nothing_spied c.args.self.now.spies.now said.0 c.args.goal plain.2)

pub take_unproposed-requires-clause-refused : goal.take_unproposed-requires-clause-refused
take_unproposed-requires-clause-refused g c = rw c.in-Err.is at c.requires.1
