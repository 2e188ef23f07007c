use Rattle.ghc_pool.proofs.Words.{[], ◌∷◌, refl, ap, arith, weigh, names}
use Rattle.ghc_pool.proofs.Moves.{weigh-append}
use Rattle.ghc_pool.proofs.Stealing.{names-append, prefix_same}
use Rattle.ghc_pool.proofs.rounds.worker.Worker.answer.Goals as goal

pub returns-clause-keeps : goal.returns-clause-keeps
returns-clause-keeps c =
    let was = c.requires.able in
    let taken = c.args.self.now.taken.items in
    record {
      able = record { fifo = was.fifo; some_part = was.some_part; others = was.others; offers = was.offers };
      balance = λ h. omega (arith, ap (λ l. weigh h (names l)) c.push_reserved.ensures.items, ap (λ l. weigh h l) (names-append taken (c.args.name, c.args.answer)), weigh-append h (names taken) (c.args.name ∷ []));
      own = refl;
      parts = refl;
      others = refl;
      begins = prefix_same c.args.self.now.offered.items;
    }
