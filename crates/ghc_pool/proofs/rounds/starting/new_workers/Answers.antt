use Rattle.ghc_pool.proofs.Words.{◌≡◌, ◌+◌, ◌-◌, ◌<◌, ◌++◌, ◌∷◌, None, length, drop, refl, sym, ap, ◌∙◌, subst, arith, worker_deque, Worker, all_parts, Owner, IsFresh, AreFresh, IsHandful, AreHandfuls, AreNew, deques_of, own_deques}
use Rattle.ghc_pool.proofs.Openings.{first_fresh, handfuls_more, handfuls_cut, new_more, own_more, new_worker}
use Rattle.ghc_pool.proofs.rounds.starting.new_workers.Goals as goal

pub loop-made-preserved : goal.loop-made-preserved
loop-made-preserved c =
    let was = c.loop-made.invariant in
    let made = c.in_ok-victims.ensures in
    let push = c.in-Ok.ensures in
    let less : 127 - c.loop-made.made ≡ all_parts - (c.loop-made.made + 1) = omega arith in
    let ds = deques_of c.handful.new.owners.items in
    let hand = subst (λ l. IsHandful l c.in_ok-victims.victims.items) (sym made.deques) made.handful in
    let hands = subst (λ l. AreHandfuls l c.loop-made.hands.items) (sym made.deques) was.2 in (
      subst (λ n. AreFresh n c.handful.new.owners.items) less made.fresh,
      made.count ∙ was.1,
      subst (AreHandfuls ds) (sym push.items) (handfuls_more ds c.loop-made.hands.items c.in_ok-victims.victims hands hand),
      omega (arith, push.len, was.3),
    )

pub loop-moved-preserved : goal.loop-moved-preserved
loop-moved-preserved c =
    let was = c.loop-moved.invariant in
    let os = c.loop-moved.owners in
    let o = c.remove-owner.result in
    let out = c.remove-owner.ensures in
    let k = all_parts - c.args.count in
    let some : 0 < k = omega (arith, c.requires.count.1) in
    let low : 0 < length os.items = omega (arith, os.ok.0, was.1, c.loop-moved-test.true, c.loop-moved.auto.moved-end) in
    let ds = deques_of c.loop-made.owners.items in
    let first = first_fresh os.items k o low was.0 in
    let rest = out.by_index.2 in
    let cut = handfuls_cut ds c.pop.new.self.items c.in-Some.victims (subst (AreHandfuls ds) c.in-Some.ensures.items was.2) in
    let push = c.in-Ok-push.ensures in
    let fresh = subst (IsFresh k) (sym out.value) first.0 in
    let room = c.in-Ok-with_capacity.ensures in
    let w : Worker = record { owner = o; victims = c.in-Some.victims; offered = c.new.result; taken = c.new-in-loop-moved.result; left = c.in-Ok-with_capacity.left; stop = None } in
    let is = new_worker k ds w some fresh cut.0 c.new.ensures.items c.new-in-loop-moved.ensures.items room.items room.capacity refl in (
      subst (AreFresh k) (sym rest) first.1,
      omega (arith, out.len, was.1),
      cut.1,
      ap (λ l. own_deques l ++ deques_of c.remove-owner.new.self.items) push.items ∙ own_more c.loop-moved.workers.items w (deques_of c.remove-owner.new.self.items)
          ∙ ap (λ l. own_deques c.loop-moved.workers.items ++ worker_deque o ∷ deques_of l) rest ∙ ap (λ e. own_deques c.loop-moved.workers.items ++ e ∷ deques_of (drop 1 os.items)) (ap (λ (u : Owner). worker_deque u) out.value)
          ∙ ap (λ l. own_deques c.loop-moved.workers.items ++ l) (sym first.2) ∙ was.3,
      subst (AreNew k ds) (sym push.items) (new_more k ds c.loop-moved.workers.items w was.4 is c.new.ensures.items),
      omega (arith, push.len, was.5),
    )
