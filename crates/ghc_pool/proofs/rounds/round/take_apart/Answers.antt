use Rattle.ghc_pool.proofs.Words.{◌<◌, ◌++◌, ◌∷◌, length, drop, sym, ap, ◌∙◌, arith, Worker, work_of, works}
use Rattle.ghc_pool.proofs.Telling.{first_work, work_between}
use Rattle.ghc_pool.proofs.rounds.round.take_apart.Goals as goal

pub loop-moved-preserved : goal.loop-moved-preserved
loop-moved-preserved c =
    let was = c.loop-moved.invariant in
    let ws = c.loop-moved.workers in
    let w : Worker = c.remove-owner.result in
    let out = c.remove-owner.ensures in
    let low : 0 < length ws.items = omega (arith, ws.ok.0, was.1, c.loop-moved-test.true, c.len-moved-end.ensures) in
    let rest = out.by_index.2 in
    let push = c.push_reserved.ensures in (
      ap (λ l. l ++ works c.remove-owner.new.self.items) push.items ∙ work_between c.loop-moved.done.items (work_of w) (works c.remove-owner.new.self.items) ∙ ap (λ l. c.loop-moved.done.items ++ work_of w ∷ works l) rest
          ∙ ap (λ (u : Worker). c.loop-moved.done.items ++ work_of u ∷ works (drop 1 ws.items)) out.value ∙ ap (λ l. c.loop-moved.done.items ++ l) (sym (first_work ws.items w low)) ∙ was.0,
      omega (arith, out.len, was.1),
      omega (arith, push.len, was.2),
      omega (arith, was.3, push.capacity),
    )
