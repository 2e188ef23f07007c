use Rattle.ghc_pool.proofs.Words.{[], ◌∷◌, length, refl, ap, ◌∙◌, arith, worker_view, weigh, names}
use Rattle.ghc_pool.proofs.Moves.{takes, weigh-append}
use Rattle.ghc_pool.proofs.Stealing.{prefix_same}
use Rattle.ghc_pool.proofs.rounds.worker.Worker.take.Goals as goal

pub pop_as-requires-clause-fifo : goal.pop_as-requires-clause-fifo
pop_as-requires-clause-fifo c = λ _. takes _ _ c.requires.able.some_part

pub returns-in-Some-clause-found : goal.returns-in-Some-clause-found
returns-in-Some-clause-found c =
    let was = c.requires.able in
    let pop = c.in-Some.ensures in
    let seen = pop.rule in
    let got = (worker_view c.args.self.now.owner).got in
    record {
      able = record { fifo = pop.same.0.1 ∙ was.fifo; some_part = omega (arith, ap (λ v. v.parts) seen, was.some_part); others = was.others; offers = omega (arith, was.offers, ap (λ v. length v.put) seen) };
      balance = λ h. omega (arith, ap (λ v. weigh h v.put) seen, ap (λ v. weigh h v.got) seen, weigh-append h got (c.in-Some.name ∷ []), ap (λ l. weigh h (names l)) c.in-Ok.ensures.items);
      own = pop.same.0.0;
      parts = ap (λ v. v.parts) seen;
      others = refl;
      begins = prefix_same c.args.self.now.offered.items;
    }
