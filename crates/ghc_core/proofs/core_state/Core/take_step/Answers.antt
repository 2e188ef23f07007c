use Rattle.std.specs.Result.{OnOk}
use Rattle.ghc_core.proofs.Words.{sym, subst, AreLeft, Binds, World}
use Rattle.ghc_core.specs.World.{IsNextStep}
use Rattle.ghc_core.proofs.core_state.Core.take_step.Goals as goal

pub add_next-requires-clause-found : goal.add_next-requires-clause-found
add_next-requires-clause-found c = subst (λ (w : World). IsNextStep w c.args.step) (sym c.reserve_to_add.ensures.stays.world) c.requires.found

pub returns-clause-notes : goal.returns-clause-notes
returns-clause-notes c =
    subst (λ notes. OnOk c.add_next.result (AreLeft c.add_next.new.self.world.state.goals (Binds c.args.step) notes c.add_next.new.self.notes))
    c.reserve_to_add.ensures.stays.notes c.add_next.ensures.notes
