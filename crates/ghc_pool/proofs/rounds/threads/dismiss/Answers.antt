use Rattle.ghc_pool.proofs.Words.{◌<◌, ◌≤◌, ◌++◌, ◌∷◌, length, drop, sym, ap, ◌∙◌, subst, arith, Job, over, submits_of, IsCounted, AreCounted, workers_in, passes_in}
use Rattle.ghc_pool.proofs.Jobs.{first_counted, over_last, put_between}
use Rattle.ghc_pool.proofs.rounds.threads.dismiss.Goals as goal

pub loop-moved-preserved : goal.loop-moved-preserved
loop-moved-preserved g c =
    let was = c.loop-moved.invariant in
    let js = c.loop-moved.jobs in
    let j : Job g.row.P.Denot g.row.L.Denot = c.remove-worker.result in
    let out = c.remove-worker.ensures in
    let low : 0 < length js.items = omega (arith, js.ok.0, was.6, c.loop-moved-test.true, c.len-moved-end.ensures) in
    let first = first_counted js.items j low was.2 in
    let is : IsCounted j = subst IsCounted (sym out.value) first.0 in
    let rest = out.by_index.2 in
    let push = c.push_reserved.ensures in
    let push' = c.push_reserved-in-loop-moved.ensures in (
      ap (λ l. l ++ workers_in c.remove-worker.new.self.items) push.items ∙ put_between c.loop-moved.workers.items j.worker (workers_in c.remove-worker.new.self.items) ∙ ap (λ l. c.loop-moved.workers.items ++ j.worker ∷ workers_in l) rest
          ∙ ap (λ (u : Job g.row.P.Denot g.row.L.Denot). c.loop-moved.workers.items ++ u.worker ∷ workers_in (drop 1 js.items)) out.value ∙ ap (λ l. c.loop-moved.workers.items ++ l) (sym first.2) ∙ was.0,
      ap (λ l. l ++ passes_in c.remove-worker.new.self.items) push'.items ∙ put_between c.loop-moved.passes.items j.pass (passes_in c.remove-worker.new.self.items) ∙ ap (λ l. c.loop-moved.passes.items ++ j.pass ∷ passes_in l) rest
          ∙ ap (λ (u : Job g.row.P.Denot g.row.L.Denot). c.loop-moved.passes.items ++ u.pass ∷ passes_in (drop 1 js.items)) out.value ∙ ap (λ l. c.loop-moved.passes.items ++ l) (sym first.3) ∙ was.1,
      subst AreCounted (sym rest) first.1,
      omega (arith, c.merge.ensures.parts, was.3, is.part),
      omega (arith, c.merge.ensures.amount, was.4, is.counted, ap (λ l. over submits_of l) push.items, over_last submits_of c.loop-moved.workers.items j.worker),
      (let few : j.spare ≤ 32 = is.few in omega (arith, was.5, few)),
      omega (arith, out.len, was.6),
      omega (arith, push.len, was.7),
      omega (arith, push'.len, was.8),
      omega (arith, was.9, push.capacity),
      omega (arith, was.10, push'.capacity),
    )
