use Rattle.ghc_pool.proofs.Words.{◌≡◌, ◌+◌, ◌<◌, suc, length, set, sym, ap, ◌∙◌, subst, arith, vec_capacity, vec_len, worker_deque, worker_flavor, worker_view, Worker, weigh, Work, work_of, AreVictims, deques, stolen, put_of, got_of, stolen_of, IsReady, HaveGivenBack, own_deques, all_victims}
use lib.ListN.{get_or}
use Rattle.ghc_pool.proofs.Returned.{over_set, over_kept, ready_at, ready_set, own_set, given_at, given_set, all_stolen, stolen_all, none_stolen, parts_kept, parts_plus, same_count, same_view, length-set-workers, works_set, released}
use Rattle.ghc_pool.proofs.rounds.gathering.gather.Goals as goal

pub give_back-requires-clause-ready : goal.give_back-requires-clause-ready
give_back-requires-clause-ready c =
    let ws = c.loop-from.workers in
    let low : c.loop-from.from < length ws.items = omega (arith, ws.ok.0, c.loop-from-test.true, c.loop-from.invariant.7, c.len-from-end.ensures) in
    let d = c.index_mut.result.now in
    let ready = subst IsReady (sym c.index_mut.ensures.value) (ready_at ws.items c.loop-from.from d low c.loop-from.invariant.0) in
    let rest = c.release-victims.ensures.rest in
    let w = c.release-victims.new.self in
    let d = c.index_mut.result.now in
    ready_set ws.items c.loop-from.from w c.loop-from.invariant.0
    record {
      fifo = ap worker_flavor rest.0 ∙ ready.fifo;
      some_part = omega (arith, ready.some_part, ap (λ u. u.parts) (same_view w d rest.0));
      offers = omega (arith, ready.offers, ap (λ u. length u.put) (same_view w d rest.0), ap (λ (k : Work). vec_len k.offered) rest.1);
      room = omega (arith, ready.room, ap (λ u. length u.put) (same_view w d rest.0), ap (λ (k : Work). vec_len k.left) rest.1, ap (λ (k : Work). vec_capacity k.left) rest.1);
    }

pub give_back-requires-clause-victims : goal.give_back-requires-clause-victims
give_back-requires-clause-victims c =
    let ws = c.loop-from.workers in
    let low : c.loop-from.from < length ws.items = omega (arith, ws.ok.0, c.loop-from-test.true, c.loop-from.invariant.7, c.len-from-end.ensures) in
    let given = given_at ws.items c.loop-from.from c.index_mut.result.now (own_deques c.args.workers.now.items) low c.loop-from.invariant.2 in
    subst (λ v. AreVictims v.items) (sym (c.release-victims.ensures.victims ∙ ap (λ (u : Worker). u.victims) c.index_mut.ensures.value)) given.0

pub give_back-requires-clause-deques : goal.give_back-requires-clause-deques
give_back-requires-clause-deques c =
    let ws = c.loop-from.workers in
    let low : c.loop-from.from < length ws.items = omega (arith, ws.ok.0, c.loop-from-test.true, c.loop-from.invariant.7, c.len-from-end.ensures) in
    let d = c.index_mut.result.now in
    let is = c.index_mut.ensures.value in
    let given = given_at ws.items c.loop-from.from d (own_deques c.args.workers.now.items) low c.loop-from.invariant.2 in
    let own = own_set ws.items c.loop-from.from d c.release-victims.new.self low (ap worker_deque c.release-victims.ensures.rest.0 ∙ ap (λ (u : Worker). worker_deque u.owner) is) in
    ap (λ v. deques v.items) (c.release-victims.ensures.victims ∙ ap (λ (u : Worker). u.victims) is) ∙ given.1 ∙ sym (own ∙ c.loop-from.invariant.1)

pub loop-from-preserved : goal.loop-from-preserved
loop-from-preserved c =
    let was = c.loop-from.invariant in
    let ws = c.loop-from.workers in
    let i = c.loop-from.from in
    let d = c.index_mut.result.now in
    let is = c.index_mut.ensures.value in
    let w = c.release-victims.new.self in
    let out = c.release-victims.ensures in
    let low : i < length ws.items = omega (arith, ws.ok.0, c.loop-from-test.true, was.7, c.len-from-end.ensures) in
    let back = c.give_back.ensures in
    let next : suc i ≡ i + 1 = omega arith in
    let new = c.give_back.new.workers in
    let mid = set ws.items i w in
    let own = own_set ws.items i d w low (ap worker_deque out.rest.0 ∙ ap (λ (u : Worker). worker_deque u.owner) is) in
    let given = given_set ws.items i w (own_deques c.args.workers.now.items) out.none was.2 in (
      back.ready,
      back.deques ∙ own ∙ was.1,
      subst (λ n. HaveGivenBack n (own_deques c.args.workers.now.items) (all_victims new.items)) next (subst (λ l. HaveGivenBack (suc i) (own_deques c.args.workers.now.items) l) (sym back.victims) given),
      (λ k h. parts_plus new.items (k + i + 1) (k + (i + 1)) (omega arith) (back.parts (k + i) (parts_kept ws.items (k + i) i d w low (ap (λ u. u.parts) (same_view w d out.rest.0) ∙ ap (λ (u : Worker). (worker_view u.owner).parts) is) (was.3 k h)))),
      back.works ∙ works_set ws.items i d w low (out.rest.1 ∙ ap (λ (u : Worker). work_of u) is) ∙ was.4,
      (λ h. back.put h ∙ over_kept (put_of h) ws.items i d w low (ap (λ u. weigh h u.put) (same_view w d out.rest.0) ∙ ap (λ (u : Worker). put_of h u) is) ∙ was.5 h),
      (λ h.
          let got = over_kept (got_of h) ws.items i d w low (ap (λ u. weigh h u.got) (same_view w d out.rest.0) ∙ ap (λ (u : Worker). got_of h u) is) in
          let none : stolen_of h w ≡ 0 = ap (λ l. stolen h l) out.none in
          let out' = ap (λ v. stolen h v.items) (out.victims ∙ ap (λ (u : Worker). u.victims) is) in
          let stole = over_set (stolen_of h) ws.items i d w (stolen_of h (get_or ws.items i d)) 0 low (omega (arith, none)) in
          let same = stolen_all h new.items ∙ ap (λ l. all_stolen h l) back.victims ∙ sym (stolen_all h mid) in
          omega (arith, was.6 h, back.got h, got, stole, same, out')),
      omega (arith, new.ok.0, same_count mid new.items back.deques, length-set-workers ws.items i w, ws.ok.0, was.7),
    )

pub returns-clause-parts : goal.returns-clause-parts
returns-clause-parts c =
    let end : c.loop-from.from ≡ vec_len c.args.workers.now = omega (arith, c.loop-from-test.false, c.len-from-end.ensures, c.loop-from.auto.from-end) in
    λ k h. parts_plus c.loop-from.workers.items (k + c.loop-from.from) (k + vec_len c.args.workers.now) (omega (arith, end)) (c.loop-from.invariant.3 k h)

pub returns-clause-got : goal.returns-clause-got
returns-clause-got c =
    let ws = c.loop-from.workers in
    let end : c.loop-from.from ≡ length ws.items = omega (arith, ws.ok.0, c.loop-from.invariant.7, c.loop-from-test.false, c.len-from-end.ensures, c.loop-from.auto.from-end) in
    λ h. omega (arith, c.loop-from.invariant.6 h, none_stolen h (own_deques c.args.workers.now.items) ws.items (subst (λ n. HaveGivenBack n (own_deques c.args.workers.now.items) (all_victims ws.items)) end c.loop-from.invariant.2))

pub returns-clause-released : goal.returns-clause-released
returns-clause-released c =
    let ws = c.loop-from.workers in
    let end : c.loop-from.from ≡ length ws.items = omega (arith, ws.ok.0, c.loop-from.invariant.7, c.loop-from-test.false, c.len-from-end.ensures, c.loop-from.auto.from-end) in
    released (own_deques c.args.workers.now.items) ws.items (subst (λ n. HaveGivenBack n (own_deques c.args.workers.now.items) (all_victims ws.items)) end c.loop-from.invariant.2)
