use Rattle.ghc_pool.proofs.Words.{[], ◌∷◌, length, refl, sym, ap, ◌∙◌, arith, length-append, worker_view, weigh}
use Rattle.ghc_pool.proofs.Moves.{puts, weigh-append}
use Rattle.ghc_pool.proofs.rounds.worker.Worker.offer_reserved.Goals as goal

pub push_as-requires-clause-pushes : goal.push_as-requires-clause-pushes
push_as-requires-clause-pushes c = puts _ _ _ c.requires.able.some_part

pub returns-in-Ok-clause-keeps : goal.returns-in-Ok-clause-keeps
returns-in-Ok-clause-keeps c =
    let was = c.requires.able in
    let push = c.in-Ok.ensures in
    let seen = push.rule.0 in
    let put = (worker_view c.args.self.now.owner).put in
    let offered = c.push_reserved.ensures in
    record {
      able = record {
        fifo = push.same.1 ∙ was.fifo;
        some_part = omega (arith, ap (λ v. v.parts) seen, was.some_part);
        others = was.others;
        offers = omega (arith, was.offers, length-append put (c.args.name ∷ []), ap (λ v. length v.put) seen, offered.len);
      };
      balance = λ h. omega (arith, ap (λ v. weigh h v.put) seen, ap (λ v. weigh h v.got) seen, weigh-append h put (c.args.name ∷ []), ap (λ l. weigh h l) offered.items, weigh-append h c.args.self.now.offered.items (c.args.name ∷ []));
      own = push.same.0;
      parts = ap (λ v. v.parts) seen;
      others = refl;
      begins = (c.args.name ∷ [], sym offered.items);
    }

pub returns-in-Err-clause-keeps : goal.returns-in-Err-clause-keeps
returns-in-Err-clause-keeps c =
    let was = c.requires.able in
    let push = c.in-Err.ensures in
    let same = push.rule.1 in
    let name = c.in-Err.refused in
    let offered = c.push_reserved-in-Err.ensures in
    let left = c.push_reserved-in-Err-2.ensures in
    record {
      able = record {
        fifo = push.same.1 ∙ was.fifo;
        some_part = omega (arith, ap (λ v. v.parts) same, was.some_part);
        others = was.others;
        offers = omega (arith, was.offers, ap (λ v. length v.put) same, offered.len);
      };
      balance = λ h. omega (arith, ap (λ v. weigh h v.put) same, ap (λ v. weigh h v.got) same, ap (λ l. weigh h l) offered.items, weigh-append h c.args.self.now.offered.items (name ∷ []), ap (λ l. weigh h l) left.items, weigh-append h c.args.self.now.left.items (name ∷ []));
      own = push.same.0;
      parts = ap (λ v. v.parts) same;
      others = refl;
      begins = (name ∷ [], sym offered.items);
    }
