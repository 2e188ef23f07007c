use Rattle.std.proofs.Common.{◌∙◌, ap}
use Rattle.std.specs.FinSet as set
use Rattle.ghc_hooks.proofs.Pairs.{hook_total, hook_antisymmetric, same_hook, same_hook_is}
use Rattle.ghc_hooks.proofs.Tables.{has_key}
use Rattle.ghc_hooks.proofs.face.hooks.Hooks.contains.Goals as goal

pub returns : goal.returns
returns c =
    c.contains.ensures ∙ has_key hook_total hook_antisymmetric same_hook same_hook_is (c.args.x, c.args.goal) c.self.inside.table.keys ∙ ap (λ s. set.contains s (c.args.x, c.args.goal)) c.self.view_is
