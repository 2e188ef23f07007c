use Rattle.ghc_pool.proofs.Words.{[], ◌∷◌, length, refl, ap, ◌∙◌, arith, worker_view, Worker, weigh, work_of, Keeps, IsSpent}
use Rattle.ghc_pool.proofs.Moves.{takes_last, finds, weigh-append}
use Rattle.ghc_pool.proofs.Stealing.{keeps_after, prefix_same}
use Rattle.ghc_pool.proofs.Judging.{went_after}
use Rattle.ghc_pool.proofs.rounds.worker.Worker.drain.Goals as goal

pub pop_as-requires-clause-fifo : goal.pop_as-requires-clause-fifo
pop_as-requires-clause-fifo g c = λ _. takes_last _ _ (c.loop.invariant.0.parts ∙ c.requires.pending.all_back)

pub pop_as-requires-clause-empty : goal.pop_as-requires-clause-empty
pop_as-requires-clause-empty g c = finds _ _ (c.loop.invariant.0.parts ∙ c.requires.pending.all_back)

pub loop-preserved : goal.loop-preserved
loop-preserved g c =
    let was = c.loop.invariant in
    let w = c.loop.self in
    let pop = c.in-Some-pop_as.ensures in
    let seen = pop.rule.0 in
    let name = c.in-Some-pop_as.name in
    let popped : Worker = record { owner = c.pop_as.new.self; victims = w.victims; offered = w.offered; taken = w.taken; left = w.left; stop = w.stop } in
    let got : Keeps [] (name ∷ []) w popped = record {
      able = record {
        fifo = pop.same.0.1 ∙ was.0.able.fifo;
        some_part = omega (arith, ap (λ v. v.parts) seen, was.0.able.some_part);
        others = was.0.able.others;
        offers = omega (arith, was.0.able.offers, ap (λ v. length v.put) seen);
      };
      balance = λ h. omega (arith, ap (λ v. weigh h v.put) seen, ap (λ v. weigh h v.got) seen, weigh-append h (worker_view w.owner).got (name ∷ []));
      own = pop.same.0.0;
      parts = ap (λ v. v.parts) seen;
      others = refl;
      begins = prefix_same w.offered.items;
    } in
    let meet = c.meet_last-stop.ensures in (
      keeps_after [] [] [] _ _ _ was.0 (keeps_after [] (name ∷ []) [] w popped c.meet_last-stop.new.self got meet.keeps),
      meet.room,
      meet.parts ∙ was.2,
      went_after (g.C.Craft.fed c.args.craft.now) (g.C.Craft.asks c.args.craft.now) (λ p. IsSpent (g.C.Craft.takes c.args.craft.now) p.spare p.budget.left) c.args.stop c.loop.stop c.meet_last-stop.result (work_of c.args.self.now) (work_of w) (work_of c.meet_last-stop.new.self) c.args.permits.now c.loop.permits c.meet_last-stop.new.permits was.3 meet.went,
      (λ start told. meet.tells start (was.4 start told)),
      omega (arith, was.5, meet.counted),
    )
