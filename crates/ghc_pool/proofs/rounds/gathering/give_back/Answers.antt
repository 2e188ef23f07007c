use Rattle.ghc_pool.proofs.Words.{◌≡◌, ◌+◌, ◌++◌, [], ◌∷◌, ℕ, length, set, refl, sym, ap, ◌∙◌, subst, arith, length-append, append-nil, worker_deque, worker_view, stealer_deque, view, IsPassOf, Worker, GoalName, weigh, work_of, put_of, got_of, stolen, IsReady, HaveParts, HavePartsFrom}
use lib.ListN.{get_or}
use Rattle.ghc_pool.proofs.Moves.{weigh-append}
use Rattle.ghc_pool.proofs.Returned.{over_set, over_kept, ready_at, ready_set, own_set, victims_kept, parts_set, parts_all, parts_end, last_of, stolen-append, ready_absorbed, same_length, last_at, works_set}
use Rattle.ghc_pool.proofs.rounds.gathering.give_back.Goals as goal

pub loop-victim-init : goal.loop-victim-init
loop-victim-init c =
    let ws = c.args.workers.now.items in
    let vs = c.args.victims in (
      c.requires.ready,
      c.requires.victims,
      refl,
      refl,
      ([], sym c.requires.deques ∙ sym (append-nil _)),
      (λ k h. subst (λ n. HavePartsFrom n k ws) (same_length vs.items ws c.requires.deques) (parts_all ws k h)),
      refl,
      (λ h. refl),
      (λ h. refl),
    )

pub index_mut-requires : goal.index_mut-requires
index_mut-requires c =
    let was = c.loop-victim.invariant in
    let ws = c.loop-victim.workers in
    let place = c.len.ensures ∙ c.pop.new.self.ok.0 in
    let at = last_at ws.items c.loop-victim.victims.items c.pop.new.self.items c.in-Some.victim c.len.result was.4.0 c.in-Some.ensures.items place was.4.1 in
    omega (arith, at, ws.ok.0)

pub absorb-requires-clause-deque : goal.absorb-requires-clause-deque
absorb-requires-clause-deque c =
    let was = c.loop-victim.invariant in
    let d = c.index_mut.result.now in
    let v = c.in-Some.victim in
    let place = c.len.ensures ∙ c.pop.new.self.ok.0 in
    let at = last_of c.loop-victim.workers.items c.loop-victim.victims.items c.pop.new.self.items v c.len.result d was.4.0 c.in-Some.ensures.items place was.1 was.4.1 in
    subst (λ e. IsPassOf e v.pass) (sym (ap (λ (u : Worker). worker_deque u.owner) c.index_mut.ensures.value ∙ at.3)) at.1.1

pub absorb-requires-clause-part : goal.absorb-requires-clause-part
absorb-requires-clause-part c =
    let was = c.loop-victim.invariant in
    let d = c.index_mut.result.now in
    let place = c.len.ensures ∙ c.pop.new.self.ok.0 in
    let low = last_at c.loop-victim.workers.items c.loop-victim.victims.items c.pop.new.self.items c.in-Some.victim c.len.result was.4.0 c.in-Some.ensures.items place was.4.1 in
    (subst IsReady (sym c.index_mut.ensures.value) (ready_at c.loop-victim.workers.items c.len.result d low was.0)).some_part

pub loop-victim-preserved : goal.loop-victim-preserved
loop-victim-preserved c =
    let was = c.loop-victim.invariant in
    let ws = c.loop-victim.workers.items in
    let i = c.len.result in
    let d = c.index_mut.result.now in
    let v = c.in-Some.victim in
    let w = c.absorb.new.self in
    let rest = c.pop.new.self.items in
    let is = c.index_mut.ensures.value in
    let place = c.len.ensures ∙ c.pop.new.self.ok.0 in
    let at = last_of ws c.loop-victim.victims.items rest v i d was.4.0 c.in-Some.ensures.items place was.1 was.4.1 in
    let low = at.2 in
    let back = c.absorb.ensures in
    let none = at.1.3 in
    let ready : IsReady d = subst IsReady (sym is) (ready_at ws i d low was.0) in
    let own = own_set ws i d w low (back.own ∙ ap (λ (u : Worker). worker_deque u.owner) is) in
    let put : (h : GoalName → ℕ) → put_of h w ≡ put_of h (get_or ws i d) = λ h. ap (λ u. weigh h u.put) back.known ∙ ap (λ l. weigh h ((worker_view d.owner).put ++ l)) none ∙ ap (λ l. weigh h l) (append-nil (worker_view d.owner).put) ∙ ap (λ (u : Worker). put_of h u) is in (
      ready_set ws i w was.0 (ready_absorbed d w (view v.pass) ready back none),
      at.0,
      own ∙ was.2,
      victims_kept ws i d w low (back.rest.0 ∙ ap (λ (u : Worker). u.victims) is) ∙ was.3,
      (stealer_deque v.thief ∷ was.4.0, own ∙ at.4),
      (λ k h.
          let from = subst (λ n. HavePartsFrom n k ws) (ap (λ l. length l) c.in-Some.ensures.items ∙ length-append rest (v ∷ []) ∙ (omega (arith, place))) (was.5 k h) in
          let one : (worker_view w.owner).parts ≡ (worker_view (get_or ws i d).owner).parts + 1 = omega (arith, ap (λ u. u.parts) back.known, at.1.2, ap (λ (u : Worker). (worker_view u.owner).parts) is) in
          subst (λ n. HavePartsFrom n k (set ws i w)) place (parts_set ws i k d w low one from)),
      works_set ws i d w low (back.rest.1 ∙ ap (λ (u : Worker). work_of u) is) ∙ was.6,
      (λ h. over_kept (put_of h) ws i d w low (put h) ∙ was.7 h),
      (λ h.
          let got = over_set (got_of h) ws i d w 0 (weigh h (view v.pass).got) low (omega (arith, ap (λ u. weigh h u.got) back.known, weigh-append h (worker_view d.owner).got (view v.pass).got, ap (λ (u : Worker). got_of h u) is)) in
          omega (arith, was.8 h, got, ap (λ l. stolen h l) c.in-Some.ensures.items, stolen-append h rest v)),
    )

pub returns-clause-parts : goal.returns-clause-parts
returns-clause-parts c =
    let none : length c.loop-victim.victims.items ≡ 0 = omega (arith, c.loop-victim.victims.ok.0, c.in_default.ensures.cases) in
    λ k h. subst (λ n. HaveParts n c.loop-victim.workers.items) (omega arith) (parts_end c.loop-victim.workers.items k (subst (λ n. HavePartsFrom n k c.loop-victim.workers.items) none (c.loop-victim.invariant.5 k h)))
