use Rattle.ghc_pool.proofs.Words.{◌≡◌, ◌-◌, refl, sym, ap, ◌∙◌, subst, arith, all_parts, works, own_deques, FirstBegins, AreJobs, workers_in}
use Rattle.ghc_pool.proofs.rounds.threads.work_together.Goals as goal

pub work_in_threads-budget-requires-clause-jobs : goal.work_in_threads-budget-requires-clause-jobs
work_in_threads-budget-requires-clause-jobs g c κs within =
    let k = all_parts - c.len-count.result in
    (k, own_deques c.offer_first.new.workers.items, c.args.passes.items, c.hire.ensures.jobs k (c.if-not-offer_first.ensures.starting k refl c.in-Some.ensures.new))

pub conclude-stop-requires-clause-jobs : goal.conclude-stop-requires-clause-jobs
conclude-stop-requires-clause-jobs g c =
    let fed = g.C.Craft.fed c.args.craft.now in
    let asks = g.C.Craft.asks c.args.craft.now in
    let tells = g.C.Craft.tells c.args.craft.now in
    let k = all_parts - c.len-count.result in
    let ds = own_deques c.offer_first.new.workers.items in
    let jobs = c.hire.ensures.jobs k (c.if-not-offer_first.ensures.starting k refl c.in-Some.ensures.new) in
    let worked = c.work_in_threads-budget.ensures.jobs k ds c.args.passes.items jobs in
    let same : own_deques (workers_in c.work_in_threads-budget.new.jobs.items) ≡ ds = c.work_in_threads-budget.ensures.deques ∙ ap own_deques c.hire.ensures.workers in (
      k,
      c.args.passes.items,
      omega (arith, c.work_in_threads-budget.ensures.count, c.hire.ensures.count, c.if-not-offer_first.ensures.count, c.in-Some.ensures.count, c.len-count.ensures, c.requires.count),
      subst (λ l. AreJobs fed asks tells k l c.args.passes.items c.work_in_threads-budget.new.jobs.items) (sym same) worked,
    )

pub conclude-stop-requires-clause-few : goal.conclude-stop-requires-clause-few
conclude-stop-requires-clause-few g c = omega (arith, c.work_in_threads-budget.ensures.count, c.hire.ensures.count, c.if-not-offer_first.ensures.count, c.in-Some.ensures.count, c.len-count.ensures, c.requires.count)

pub conclude-stop-requires-clause-workers : goal.conclude-stop-requires-clause-workers
conclude-stop-requires-clause-workers g c =
    (c.in-Some-room_for.ensures.workers.0, omega (arith, c.in-Some-room_for.ensures.workers.1, c.work_in_threads-budget.ensures.count, c.hire.ensures.count, c.if-not-offer_first.ensures.count, c.in-Some.ensures.count, c.len-count.ensures))

pub conclude-stop-requires-clause-passes : goal.conclude-stop-requires-clause-passes
conclude-stop-requires-clause-passes g c =
    (c.hire.ensures.passes.0, omega (arith, c.hire.ensures.passes.1, c.args.passes.ok, c.work_in_threads-budget.ensures.count, c.hire.ensures.count, c.if-not-offer_first.ensures.count, c.in-Some.ensures.count, c.len-count.ensures))

pub conclude-stop-requires-clause-share : goal.conclude-stop-requires-clause-share
conclude-stop-requires-clause-share g c =
    let name = c.requires.name in
    let rest = c.hire.ensures.rest in (
      omega (arith, name.1, name.2, rest.0, c.work_in_threads-budget.ensures.count, c.hire.ensures.count, c.if-not-offer_first.ensures.count, c.in-Some.ensures.count, c.len-count.ensures),
      omega (arith, rest.0),
      rest.1,
    )

pub returns-clause-tells : goal.returns-clause-tells
returns-clause-tells g c =
    let k = all_parts - c.len-count.result in
    let ds = own_deques c.offer_first.new.workers.items in
    let jobs = c.hire.ensures.jobs k (c.if-not-offer_first.ensures.starting k refl c.in-Some.ensures.new) in
    c.conclude-stop.ensures.tells k ds c.args.passes.items (c.work_in_threads-budget.ensures.jobs k ds c.args.passes.items jobs)

pub returns-clause-begins : goal.returns-clause-begins
returns-clause-begins g c =
    let names = c.args.names.now in
    c.conclude-stop.ensures.begins names (c.work_in_threads-budget.ensures.begins names (subst (λ l. FirstBegins names (works l)) (sym c.hire.ensures.workers) (c.if-not-offer_first.ensures.begins refl)))
