use Rattle.std.proofs.Common.{[], ◌∙◌}
use Rattle.ghc_pool.proofs.Stealing.{keeps_after}
use Rattle.ghc_pool.proofs.Wells.{offered_after, room_after}
use Rattle.ghc_pool.proofs.rounds.worker.Worker.offer_of_step.Goals as goal

pub returns-clause-keeps : goal.returns-clause-keeps
returns-clause-keeps c = keeps_after [] [] [] _ _ _ c.offer_made.ensures.keeps c.offer_woken.ensures.keeps

pub returns-clause-room : goal.returns-clause-room
returns-clause-room c = room_after c.args.self.now c.offer_made.new.self c.offer_woken.new.self c.offer_made.ensures.room c.offer_woken.ensures.room

pub returns-clause-got : goal.returns-clause-got
returns-clause-got c = c.offer_woken.ensures.got ∙ c.offer_made.ensures.got

pub returns-clause-taken : goal.returns-clause-taken
returns-clause-taken c = c.offer_woken.ensures.taken ∙ c.offer_made.ensures.taken

pub returns-clause-stop : goal.returns-clause-stop
returns-clause-stop c = offered_after c.args.self.now c.offer_made.new.self c.offer_woken.new.self c.offer_made.ensures.stop c.offer_woken.ensures.stop
