use Rattle.ghc_pool.proofs.Words.{◌≤◌, ap, arith, submits_in, submits}
use Rattle.ghc_pool.proofs.Stealing.{submits-append}
use Rattle.ghc_pool.proofs.Wells.{enough, room_after}
use Rattle.ghc_pool.proofs.rounds.worker.Worker.handle.Goals as goal

pub returns-then-is_some-clause-spent : goal.returns-then-is_some-clause-spent
returns-then-is_some-clause-spent g c =
    let x = c.decide-answer.result.answer in
    let few : submits_in x ≤ c.args.spare.now = enough (g.C.Craft.takes c.args.craft.now) c.args.spare.now (submits_in x) c.decide-answer.ensures.submits c.requires.permit in
    omega (arith, few, c.submits.ensures, ap (λ l. submits l) c.answer.ensures.taken, submits-append c.args.self.now.taken.items (c.args.name, x))

pub returns-clause-room : goal.returns-clause-room
returns-clause-room g c = room_after c.args.self.now c.answer.new.self c.offer_of_step.new.self c.answer.ensures.room c.offer_of_step.ensures.room

pub returns-clause-spent : goal.returns-clause-spent
returns-clause-spent g c =
    let x = c.decide-answer.result.answer in
    let few : submits_in x ≤ c.args.spare.now = enough (g.C.Craft.takes c.args.craft.now) c.args.spare.now (submits_in x) c.decide-answer.ensures.submits c.requires.permit in
    omega (arith, few, c.submits.ensures, ap (λ t. submits t.items) c.offer_of_step.ensures.taken, ap (λ l. submits l) c.answer.ensures.taken, submits-append c.args.self.now.taken.items (c.args.name, x))
