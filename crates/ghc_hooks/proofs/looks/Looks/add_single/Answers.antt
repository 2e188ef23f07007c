use Rattle.ghc_hooks.proofs.Words.{◌∙◌, ap, sym, same_is, same_goal, arith}
use Rattle.std.specs.FinMap as finite
use Rattle.ghc_hooks.proofs.Under.{put_twice, put_single}
use Rattle.ghc_hooks.proofs.looks.Looks.add_single.Goals as goal

pub returns-then-eq-clause-ok : goal.returns-then-eq-clause-ok
returns-then-eq-clause-ok c = grind (arith, same_goal, same_is, put_twice)

pub returns-clause-ok : goal.returns-clause-ok
returns-clause-ok c =
    put_single (finite.from_entries c.self.inside.several.entries) c.self.inside.single.held c.args.x c.args.self.now c.self.view_is c.args.goal c.requires c.put.new.self.held
    (sym (c.in_default.ensures ∙ ap (λ m. finite.get m.single c.args.x) c.self.view_is)) (c.put.ensures.held ∙ ap (λ s. finite.insert s c.args.x c.args.goal) c.reserve.ensures.held)
