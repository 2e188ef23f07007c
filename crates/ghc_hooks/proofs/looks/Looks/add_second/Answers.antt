use Rattle.std.proofs.Common.{◌∙◌, ap}
use Rattle.std.specs.FinSet as set
use Rattle.ghc_hooks.proofs.Under.{second_put}
use Rattle.ghc_hooks.proofs.looks.Looks.add_second.Goals as goal

pub returns-clause-ok : goal.returns-clause-ok
returns-clause-ok c =
    second_put c.self.inside.several.entries c.insert-2.new.self.entries c.self.inside.single.held c.args.self.now c.self.view_is c.args.x c.insert.new.self
    c.in_ok-insert-2.ensures.updates.0 c.args.first c.args.goal c.requires.none c.requires.first
    (c.in_ok-insert.ensures.ok ∙ ap (λ s. set.insert s c.args.goal) c.one-goals.ensures)
