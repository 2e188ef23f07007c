use Rattle.ghc_pool.proofs.Words.{◌≡◌, ◌+◌, ◌<◌, ◌++◌, [], ◌∷◌, suc, take, length, refl, sym, ap, ◌∙◌, subst, arith, Worker, works, work_of, IsWell, AreJudged}
use lib.ListN.{get_or}
use Rattle.ghc_pool.proofs.Judging.{judged_join}
use Rattle.ghc_pool.proofs.Jobs.{works_take, well_at}
use Rattle.ghc_pool.proofs.rounds.threads.first_stop.Goals as goal

pub loop-worker-preserved : goal.loop-worker-preserved
loop-worker-preserved g c =
    let fed = g.C.Craft.fed c.args.craft.now in
    let asks = g.C.Craft.asks c.args.craft.now in
    let ws = c.args.workers.now.items in
    let i = c.loop-worker.worker-index in
    let w = c.worker-item.result in
    let same = c.deref-worker-items.ensures.value in
    let low : i < length ws = omega (arith, c.loop-worker-test.true, ap (λ l. length l) same) in
    let is : w ≡ get_or ws i w = c.worker-item.is ∙ ap (λ l. get_or l i w) same in
    let well = subst (λ (u : Worker). IsWell fed asks (work_of u)) (sym is) (well_at fed asks ws i w low c.requires) in
    let more = judged_join fed asks c.loop-worker.found w.stop (works (take i ws)) (work_of w) well refl c.loop-worker.invariant in
    let next : suc i ≡ i + 1 = omega arith in
    subst (λ n. AreJudged fed asks ⊥ c.joined-found.result (works (take n ws))) next (subst (AreJudged fed asks ⊥ c.joined-found.result) (sym (works_take ws i w low ∙ ap (λ (u : Worker). works (take i ws) ++ work_of u ∷ []) (sym is))) (subst (λ s. AreJudged fed asks ⊥ s (works (take i ws) ++ work_of w ∷ [])) (sym c.joined-found.ensures) more))
