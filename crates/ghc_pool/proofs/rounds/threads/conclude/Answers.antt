use Rattle.ghc_pool.proofs.Words.{◌≡◌, length, sym, ap, subst, arith, works, over, in_of, out_of, submits_of, AreWell, own_deques, all_victims, AreReady, HaveParts, HaveGivenBack, AreTold, FirstBegins, workers_in}
use Rattle.ghc_pool.proofs.Jobs.{jobs_counted, jobs_told, jobs_well, jobs_ready, length-workers_in, length-passes_in}
use Rattle.ghc_pool.proofs.rounds.threads.conclude.Goals as goal

pub dismiss-spare-requires-clause-counted : goal.dismiss-spare-requires-clause-counted
dismiss-spare-requires-clause-counted g c =
    let all = c.requires.jobs in
    jobs_counted (g.C.Craft.fed c.args.craft.now) (g.C.Craft.asks c.args.craft.now) (g.C.Craft.tells c.args.craft.now) all.0 (own_deques (workers_in c.args.jobs.items)) all.1 c.args.jobs.items all.3

pub finish-requires-clause-ready : goal.finish-requires-clause-ready
finish-requires-clause-ready g c =
    let all = c.requires.jobs in
    subst AreReady (sym c.dismiss-spare.ensures.workers) (jobs_ready (g.C.Craft.fed c.args.craft.now) (g.C.Craft.asks c.args.craft.now) (g.C.Craft.tells c.args.craft.now) all.0 (own_deques (workers_in c.args.jobs.items)) all.1 c.args.jobs.items all.3).0

pub finish-requires-clause-victims : goal.finish-requires-clause-victims
finish-requires-clause-victims g c =
    let all = c.requires.jobs in
    subst (λ ws. HaveGivenBack 0 (own_deques ws) (all_victims ws)) (sym c.dismiss-spare.ensures.workers) (jobs_ready (g.C.Craft.fed c.args.craft.now) (g.C.Craft.asks c.args.craft.now) (g.C.Craft.tells c.args.craft.now) all.0 (own_deques (workers_in c.args.jobs.items)) all.1 c.args.jobs.items all.3).2

pub finish-requires-clause-parts : goal.finish-requires-clause-parts
finish-requires-clause-parts g c =
    let all = c.requires.jobs in
    let ws = c.dismiss-spare.new.workers in (
      all.0,
      subst (HaveParts all.0) (sym c.dismiss-spare.ensures.workers) (jobs_ready (g.C.Craft.fed c.args.craft.now) (g.C.Craft.asks c.args.craft.now) (g.C.Craft.tells c.args.craft.now) all.0 (own_deques (workers_in c.args.jobs.items)) all.1 c.args.jobs.items all.3).1,
      omega (arith, all.2, ws.ok.0, c.args.jobs.ok.0, ap (λ l. length l) c.dismiss-spare.ensures.workers, length-workers_in c.args.jobs.items),
    )

pub finish-requires-clause-balanced : goal.finish-requires-clause-balanced
finish-requires-clause-balanced g c =
    let all = c.requires.jobs in
    λ h. subst (λ ws. over (in_of h) ws ≡ over (out_of h) ws) (sym c.dismiss-spare.ensures.workers) ((jobs_ready (g.C.Craft.fed c.args.craft.now) (g.C.Craft.asks c.args.craft.now) (g.C.Craft.tells c.args.craft.now) all.0 (own_deques (workers_in c.args.jobs.items)) all.1 c.args.jobs.items all.3).3 h)

pub finish-requires-clause-well : goal.finish-requires-clause-well
finish-requires-clause-well g c =
    let all = c.requires.jobs in
    subst (λ ws. AreWell (g.C.Craft.fed c.args.craft.now) (g.C.Craft.asks c.args.craft.now) (works ws)) (sym c.dismiss-spare.ensures.workers) (jobs_well (g.C.Craft.fed c.args.craft.now) (g.C.Craft.asks c.args.craft.now) (g.C.Craft.tells c.args.craft.now) all.0 (own_deques (workers_in c.args.jobs.items)) all.1 c.args.jobs.items all.3)

pub finish-requires-clause-passes : goal.finish-requires-clause-passes
finish-requires-clause-passes g c =
    let ws = c.dismiss-spare.new.workers in
    let ps = c.dismiss-spare.new.passes in
    omega (arith, ws.ok.0, ps.ok.0, ap (λ l. length l) c.dismiss-spare.ensures.workers, ap (λ l. length l) c.dismiss-spare.ensures.passes, length-workers_in c.args.jobs.items, length-passes_in c.args.jobs.items)

pub finish-requires-clause-counted : goal.finish-requires-clause-counted
finish-requires-clause-counted g c = omega (arith, c.dismiss-spare.ensures.counted, c.requires.share, ap (λ ws. over submits_of ws) c.dismiss-spare.ensures.workers)

pub returns-clause-tells : goal.returns-clause-tells
returns-clause-tells g c = λ k ds starts all.
    let tells = g.C.Craft.tells c.args.craft.now in
    let told = jobs_told (g.C.Craft.fed c.args.craft.now) (g.C.Craft.asks c.args.craft.now) tells k ds starts c.args.jobs.items all in
    c.finish.ensures.tells starts (subst (λ ws. AreTold tells starts (works ws) c.dismiss-spare.new.passes.items) (sym c.dismiss-spare.ensures.workers) (subst (λ ps. AreTold tells starts (works (workers_in c.args.jobs.items)) ps) (sym c.dismiss-spare.ensures.passes) told))

pub returns-clause-begins : goal.returns-clause-begins
returns-clause-begins g c = λ names begins. c.finish.ensures.begins names (subst (λ ws. FirstBegins names (works ws)) (sym c.dismiss-spare.ensures.workers) begins)
