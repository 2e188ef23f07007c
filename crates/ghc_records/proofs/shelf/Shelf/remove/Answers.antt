use Rattle.ghc_records.proofs.Words.{◌∙◌, ap, nat_eq, nat_cmp_total, nat_cmp-IsAntisymmetric as nat_antisymmetric, value_is, removed, tie}
use Rattle.std.specs.FinMap as finite
use Rattle.ghc_records.proofs.shelf.Shelf.remove.Goals as goal

pub returns-clause-value : goal.returns-clause-value
returns-clause-value c = c.swap_remove.ensures.value ∙ value_is nat_cmp_total nat_antisymmetric nat_eq tie c.args.number c.self.inside.map.entries ∙ ap (λ t. finite.get t.held c.args.number) c.self.view_is

pub returns-clause-held : goal.returns-clause-held
returns-clause-held c =
    removed nat_cmp_total nat_antisymmetric nat_eq tie c.self.inside.map.entries c.swap_remove.new.self.entries c.args.number c.swap_remove.ensures.updates.0
    ∙ ap (λ t. finite.remove t.held c.args.number) c.self.view_is
