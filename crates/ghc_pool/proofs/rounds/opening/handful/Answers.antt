use Rattle.ghc_pool.proofs.Words.{◌≡◌, ◌+◌, ◌<◌, ◌++◌, [], ◌∷◌, suc, length, set, refl, sym, ap, ◌∙◌, subst, arith, length-append, worker_deque, weigh, AreVictims, deques, stolen, Owner, IsFresh, AreFresh, AreFreshFrom, deques_of}
use lib.ListN.{get_or}
use Rattle.ghc_pool.proofs.Returned.{stolen-append}
use Rattle.ghc_pool.proofs.Openings.{fresh_from, fresh_end, fresh_at, fresh_set, of_set, of_at, of_end, victims_more, deques_more}
use Rattle.ghc_pool.proofs.rounds.opening.handful.Goals as goal

pub loop-index-init : goal.loop-index-init
loop-index-init c =
    let none = c.new-victims.ensures.items in
    let one : c.args.parts + 1 ≡ suc c.args.parts = omega arith in
    let os = c.args.owners.now.items in (
      fresh_from c.args.parts os (subst (λ n. AreFresh n os) one c.requires.fresh),
      refl,
      subst AreVictims (sym none) tt,
      (λ h. ap (λ l. stolen h l) none),
      (deques_of os, ap (λ l. deques l ++ deques_of os) (sym none)),
      ap (λ l. length (deques l)) none,
      refl,
    )

pub victim_of-requires-clause-fresh : goal.victim_of-requires-clause-fresh
victim_of-requires-clause-fresh c =
    let os = c.loop-index.owners in
    let was = c.loop-index.invariant in
    let low : c.loop-index.index < length os.items = omega (arith, os.ok.0, c.loop-index-test.true, was.6, c.len-index-end.ensures) in
    let next : suc c.args.parts ≡ c.args.parts + 1 = omega arith in
    subst (λ n. IsFresh n c.index_mut.result.now) next (subst (IsFresh (suc c.args.parts)) (sym c.index_mut.ensures.value) (fresh_at os.items c.loop-index.index c.args.parts c.index_mut.result.now low was.0))

pub loop-index-preserved : goal.loop-index-preserved
loop-index-preserved c =
    let os = c.loop-index.owners in
    let was = c.loop-index.invariant in
    let i = c.loop-index.index in
    let d = c.index_mut.result.now in
    let o = c.victim_of.new.owner in
    let v = c.in_ok-victim.victim in
    let low : i < length os.items = omega (arith, os.ok.0, c.loop-index-test.true, was.6, c.len-index-end.ensures) in
    let next : suc i ≡ i + 1 = omega arith in
    let made = c.in_ok-victim.ensures in
    let items = c.in-Ok.ensures.items in
    let vs = c.loop-index.victims.items in
    let same = made.fresh.1 ∙ ap (λ (u : Owner). worker_deque u) c.index_mut.ensures.value in
    let of = of_set os.items i d o low same in
    let at = of_at os.items i d (deques vs) was.4.0 was.5 low was.4.1 in
    let deque = made.victim.1 ∙ ap (λ (u : Owner). worker_deque u) c.index_mut.ensures.value in
    let now = ap (λ l. deques l) items ∙ deques_more vs v ∙ ap (λ e. deques vs ++ e ∷ []) deque in (
      subst (λ n. AreFreshFrom n c.args.parts (set os.items i o)) next (fresh_set os.items i c.args.parts o made.fresh.0 was.0),
      of ∙ was.1,
      subst AreVictims (sym items) (victims_more vs v was.2 made.victim.0),
      (λ h. omega (arith, ap (λ l. stolen h l) items, stolen-append h vs v, was.3 h, ap (λ l. weigh h l) made.victim.2)),
      (at.0, of ∙ at.1 ∙ ap (λ l. l ++ at.0) (sym now)),
      omega (arith, ap (λ l. length l) now, length-append (deques vs) (worker_deque (get_or os.items i d) ∷ []), was.5),
      was.6,
    )

pub returns-clause-handful : goal.returns-clause-handful
returns-clause-handful c =
    let os = c.loop-index.owners in
    let was = c.loop-index.invariant in
    let end : length (deques c.loop-index.victims.items) ≡ length os.items = omega (arith, was.5, os.ok.0, was.6, c.loop-index-test.false, c.len-index-end.ensures, c.loop-index.auto.index-end) in
    record { each = was.2; those = of_end os.items (deques c.loop-index.victims.items) was.4.0 end was.4.1 ∙ was.1; none = was.3 }

pub returns-clause-fresh : goal.returns-clause-fresh
returns-clause-fresh c =
    let os = c.loop-index.owners in
    let was = c.loop-index.invariant in
    let end : c.loop-index.index ≡ length os.items = omega (arith, os.ok.0, was.6, c.loop-index-test.false, c.len-index-end.ensures, c.loop-index.auto.index-end) in
    fresh_end c.args.parts os.items (subst (λ n. AreFreshFrom n c.args.parts os.items) end was.0)
