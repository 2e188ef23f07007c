use Rattle.ghc_pool.proofs.Words.{[], ◌∷◌, refl, ap, arith, weigh}
use Rattle.ghc_pool.proofs.Moves.{weigh-append}
use Rattle.ghc_pool.proofs.Stealing.{prefix_same}
use Rattle.ghc_pool.proofs.rounds.worker.Worker.leave.Goals as goal

pub returns-clause-keeps : goal.returns-clause-keeps
returns-clause-keeps c =
    let was = c.requires.able in
    record {
      able = record { fifo = was.fifo; some_part = was.some_part; others = was.others; offers = was.offers };
      balance = λ h. omega (arith, ap (λ l. weigh h l) c.push_reserved.ensures.items, weigh-append h c.args.self.now.left.items (c.args.name ∷ []));
      own = refl;
      parts = refl;
      others = refl;
      begins = prefix_same c.args.self.now.offered.items;
    }
