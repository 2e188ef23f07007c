use Rattle.ghc_pool.proofs.Words.{◌≡◌, ◌+◌, ◌<◌, suc, set, length, refl, sym, ap, ◌∙◌, subst, arith, Work, work_of, works, in_of, out_of, submits_of, IsSpent, GoesOn, WentOn, AreJudged, IsPending, AreDrainedTo, AreTold, FirstBegins}
use mathlib.Core.List.{IsPrefix}
use lib.ListN.{get_or}
use Rattle.ghc_pool.proofs.Returned.{over_set}
use Rattle.ghc_pool.proofs.Judging.{judged_set, on_at}
use Rattle.ghc_pool.proofs.Drained.{drained_from, drained_at, drained_set, drained_end, is_drained, works_at, works_with, length-works, told_set, begins_set, balance_set}
use Rattle.ghc_pool.proofs.rounds.draining.drain_all.Goals as goal

pub loop-index-init : goal.loop-index-init
loop-index-init g c = (drained_from c.args.workers.now.items c.requires.pending, refl, refl, (λ h. refl), c.requires.judged, (λ starts told. told), (λ names begins. begins), refl, refl)

pub drain-stop-requires-clause-pending : goal.drain-stop-requires-clause-pending
drain-stop-requires-clause-pending g c =
    let ws = c.loop-index.workers in
    let low : c.loop-index.index < length ws.items = omega (arith, ws.ok.0, c.loop-index-test.true, c.loop-index.invariant.1, c.len-index-end.ensures) in
    subst IsPending (sym c.index_mut.ensures.value) (drained_at ws.items c.loop-index.index c.index_mut.result.now low c.loop-index.invariant.0)

pub drain-stop-requires-clause-goes_on : goal.drain-stop-requires-clause-goes_on
drain-stop-requires-clause-goes_on g c =
    let ws = c.loop-index.workers in
    let i = c.loop-index.index in
    let d = c.index_mut.result.now in
    let fed = g.C.Craft.fed c.args.craft.now in
    let asks = g.C.Craft.asks c.args.craft.now in
    let low : i < length ws.items = omega (arith, ws.ok.0, c.loop-index-test.true, c.loop-index.invariant.1, c.len-index-end.ensures) in
    let there = on_at fed asks (IsSpent (g.C.Craft.takes c.args.craft.now) c.loop-index.permits.spare c.loop-index.permits.budget.left) c.loop-index.stop (works ws.items) i (work_of d) (omega (arith, low, length-works ws.items)) c.loop-index.invariant.4 in
    subst (GoesOn fed asks c.loop-index.stop) (works_at ws.items i d low ∙ ap work_of (sym c.index_mut.ensures.value)) there

pub loop-index-preserved : goal.loop-index-preserved
loop-index-preserved g c =
    let was = c.loop-index.invariant in
    let fed = g.C.Craft.fed c.args.craft.now in
    let asks = g.C.Craft.asks c.args.craft.now in
    let tells = g.C.Craft.tells c.args.craft.now in
    let ws = c.loop-index.workers in
    let ps = c.loop-index.passes in
    let i = c.loop-index.index in
    let d = c.index_mut.result.now in
    let is = c.index_mut.ensures.value in
    let e = c.index_mut-in-loop-index.result.now in
    let pass_is = c.index_mut-in-loop-index.ensures.value in
    let w = c.drain-stop.new.self in
    let p = c.drain-stop.new.pass in
    let drain = c.drain-stop.ensures in
    let low : i < length ws.items = omega (arith, ws.ok.0, c.loop-index-test.true, was.1, c.len-index-end.ensures) in
    let low' : i < length (works ws.items) = omega (arith, low, length-works ws.items) in
    let at : work_of d ≡ get_or (works ws.items) i (work_of d) = ap work_of is ∙ sym (works_at ws.items i d low) in
    let now = works_with ws.items i w in
    let pending = drained_at ws.items i d low was.0 in
    let next : suc i ≡ i + 1 = omega arith in (
      subst (λ n. AreDrainedTo n (set ws.items i w)) next (drained_set ws.items i w was.0 (is_drained d w (subst IsPending (sym is) pending) drain.keeps drain.empty)),
      was.1,
      was.2,
      (λ h.
          let one = drain.keeps.balance h in
          let set' = balance_set h ws.items i d w low (omega (arith, one, ap (in_of h) is, ap (out_of h) is)) in
          omega (arith, was.3 h, set')),
      subst (AreJudged fed asks (IsSpent (g.C.Craft.takes c.args.craft.now) c.drain-stop.new.permits.spare c.drain-stop.new.permits.budget.left) c.drain-stop.result) (sym now)
          (judged_set fed asks (λ q. IsSpent (g.C.Craft.takes c.args.craft.now) q.spare q.budget.left) c.loop-index.stop c.drain-stop.result (works ws.items) i (work_of d) (work_of w) c.loop-index.permits c.drain-stop.new.permits low'
          (subst (λ k. WentOn fed asks (IsSpent (g.C.Craft.takes c.args.craft.now) c.drain-stop.new.permits.spare c.drain-stop.new.permits.budget.left) c.loop-index.stop c.drain-stop.result k (work_of w) c.loop-index.permits c.drain-stop.new.permits) at drain.went) was.4),
      (λ starts told.
          subst (λ ks. AreTold tells starts ks (set ps.items i p)) (sym now) (told_set tells starts (works ws.items) ps.items i (work_of d) (work_of w) e p low' (was.5 starts told)
          (λ start here. drain.tells start (subst (λ (k : Work). tells start k.taken.items e) (sym at) (subst (λ q. tells start (get_or (works ws.items) i (work_of d)).taken.items q) (sym pass_is) here))))),
      (λ names begins. subst (FirstBegins names) (sym now) (begins_set names (works ws.items) i (work_of d) (work_of w) low' (subst (λ (k : Work). IsPrefix k.offered.items w.offered.items) at drain.keeps.begins) (was.6 names begins))),
      drain.parts ∙ was.7,
      (let submits = over_set submits_of ws.items i d w (submits_of (get_or ws.items i d)) (submits_of w) low (omega arith) in
          omega (arith, was.8, drain.counted, submits, ap submits_of is)),
    )

pub returns-clause-drained : goal.returns-clause-drained
returns-clause-drained g c =
    let ws = c.loop-index.workers in
    let end : c.loop-index.index ≡ length ws.items = omega (arith, ws.ok.0, c.loop-index-test.false, c.loop-index.invariant.1, c.len-index-end.ensures, c.loop-index.auto.index-end) in
    drained_end ws.items (subst (λ n. AreDrainedTo n ws.items) end c.loop-index.invariant.0)
