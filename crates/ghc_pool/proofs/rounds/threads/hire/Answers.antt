use Rattle.ghc_pool.proofs.Words.{◌≡◌, ◌<◌, ◌++◌, [], ◌∷◌, length, drop, refl, sym, ap, ◌∙◌, subst, arith, Job, IsStarting, AreStarting, AreJobs, workers_in}
use Rattle.ghc_pool.proofs.Jobs.{first_starting, first_rest, workers_more, new_job, jobs_more, put_between}
use Rattle.ghc_pool.proofs.rounds.threads.hire.Goals as goal

pub loop-number-preserved : goal.loop-number-preserved
loop-number-preserved g c =
    let was = c.loop-number.invariant in
    let fed = g.C.Craft.fed c.args.craft.now in
    let asks = g.C.Craft.asks c.args.craft.now in
    let tells = g.C.Craft.tells c.args.craft.now in
    let ws = c.loop-number.workers in
    let ps = c.loop-number.passes in
    let w = c.remove-worker.result in
    let p = c.remove-pass.result in
    let out = c.remove-worker.ensures in
    let out' = c.remove-pass.ensures in
    let share = c.split_off-share.ensures in
    let push = c.push_reserved.ensures in
    let j : Job g.row.P.Denot g.row.L.Denot = record { number = c.loop-number.number; worker = w; pass = p; share = c.split_off-share.result; spare = 0 } in
    let low : 0 < length ws.items = omega (arith, ws.ok.0, was.2, c.loop-number-test.true, c.len-number-end.ensures) in
    let low' : 0 < length ps.items = omega (arith, low, ws.ok.0, ps.ok.0, was.3) in
    let rest = out.by_index.2 in
    let rest' = out'.by_index.2 in
    let first : ws.items ≡ w ∷ c.remove-worker.new.self.items = first_rest ws.items w low ∙ ap (λ u. u ∷ drop 1 ws.items) (sym out.value) ∙ ap (λ l. w ∷ l) (sym rest) in
    let first' : ps.items ≡ p ∷ c.remove-pass.new.self.items = first_rest ps.items p low' ∙ ap (λ u. u ∷ drop 1 ps.items) (sym out'.value) ∙ ap (λ l. p ∷ l) (sym rest') in
    let done = was.1.0 in (
      ap (λ l. workers_in l ++ c.remove-worker.new.self.items) push.items ∙ workers_more c.loop-number.jobs.items j c.remove-worker.new.self.items ∙ ap (λ l. workers_in c.loop-number.jobs.items ++ l) (sym first) ∙ was.0,
      (
        done ++ p ∷ [],
        put_between done p c.remove-pass.new.self.items ∙ ap (λ l. done ++ l) (sym first') ∙ was.1.1,
        (λ k ds starting.
            let so_far = was.1.2 k ds starting in
            let one = first_starting k ds ws.items w low so_far.1 in
            let is : IsStarting k ds w = subst (IsStarting k ds) (sym out.value) one.0 in (
              subst (AreJobs fed asks tells k ds (done ++ p ∷ [])) (sym push.items) (jobs_more fed asks tells k ds done c.loop-number.jobs.items p j so_far.0 (new_job fed asks tells k ds j is c.begin.ensures.fed c.begin.ensures.tells share.parts share.amount refl)),
              subst (AreStarting k ds) (sym rest) one.1,
            )),
      ),
      omega (arith, out.len, was.2),
      omega (arith, out.len, out'.len, was.3),
      omega (arith, push.len, was.4),
      omega (arith, share.parts_left, share.parts, was.5),
      omega (arith, share.amount_left, share.amount, was.6),
      push.capacity ∙ was.7,
      out'.capacity ∙ was.8,
    )
