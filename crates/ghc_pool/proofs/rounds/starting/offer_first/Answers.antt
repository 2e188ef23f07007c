use Rattle.ghc_pool.proofs.Words.{◌≡◌, ◌<◌, length, sym, ap, ◌∙◌, subst, arith, worker_deque, Worker, IsStarting, AreStarting, own_deques}
use lib.ListN.{get_or}
use Rattle.ghc_pool.proofs.Jobs.{starting_roomier, starting_offered, new_first, starting_first, set_again, at_first}
use Rattle.ghc_pool.proofs.rounds.starting.offer_first.Goals as goal

pub returns-clause-starting : goal.returns-clause-starting
returns-clause-starting c = λ k _ new.
    let ws = c.args.workers.now.items in
    let low : 0 < length ws = omega (arith, c.args.workers.now.ok.0, c.requires.some) in
    let ds = own_deques ws in
    let d = c.index_mut.result.now in
    let is = c.index_mut.ensures.value in
    let v = c.make_room.new.self in
    let d' = c.index_mut-2.result.now in
    let is' : d' ≡ v = c.index_mut-2.ensures.value ∙ at_first ws v d' low in
    let w = c.offer_all.new.self in
    let offer = c.offer_all.ensures in
    let one = starting_roomier k ds d v (subst (IsStarting k ds) (sym is) (new_first k ds ws d low new).0) c.make_room.ensures.same in
    let two = starting_offered k ds d' w (subst (IsStarting k ds) (sym is') one) offer.keeps offer.room offer.taken offer.stop in
    let own : worker_deque w.owner ≡ worker_deque (get_or ws 0 d).owner =
    offer.keeps.own ∙ ap (λ (u : Worker). worker_deque u.owner) is' ∙ ap (λ o. worker_deque o) c.make_room.ensures.same.owner ∙ ap (λ (u : Worker). worker_deque u.owner) is in
    subst (λ l. AreStarting k (own_deques l) l) (sym (set_again ws v w)) (starting_first k ws d w low new two own)
