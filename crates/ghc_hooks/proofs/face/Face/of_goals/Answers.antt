use Rattle.std.proofs.Common.{refl}
use Rattle.ghc_hooks.proofs.WholeFace.{whole}
use Rattle.ghc_hooks.proofs.face.Face.of_goals.Goals as goal

pub returns : goal.returns
returns c =
    let told = c.in_ok-hooks.ensures in
    whole c.args.program.now c.args.goals.now.held c.args.store.now.held c.args.names.now c.requires _ c.in_ok-statuses.ensures refl refl c.in_ok-outcomes.ensures told.hooks
    told.ready told.waiting told.failed told.streams
