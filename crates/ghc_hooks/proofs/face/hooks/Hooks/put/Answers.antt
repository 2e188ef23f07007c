use Rattle.std.proofs.Common.{◌∙◌, ap}
use Rattle.std.specs.FinSet as set
use Rattle.ghc_hooks.proofs.Pairs.{hook_total, hook_antisymmetric, same_hook, same_hook_is}
use Rattle.ghc_hooks.proofs.Tables.{key_put}
use Rattle.ghc_hooks.proofs.face.hooks.Hooks.put.Goals as goal

pub returns : goal.returns
returns c =
    key_put hook_total hook_antisymmetric same_hook same_hook_is c.self.inside.table.keys c.insert.new.self.keys (c.args.x, c.args.goal) c.in_ok-insert.ensures.updates.0
    ∙ ap (λ s. set.insert s (c.args.x, c.args.goal)) c.self.view_is
