use Rattle.ghc_records.proofs.Words.{◌∙◌, ap, nat_eq, nat_cmp_total, nat_cmp-IsAntisymmetric as nat_antisymmetric, value_is, tie}
use Rattle.std.specs.FinMap as finite
use Rattle.ghc_records.proofs.shelf.Shelf.get.Goals as goal

pub returns : goal.returns
returns c = c.get.ensures.value ∙ value_is nat_cmp_total nat_antisymmetric nat_eq tie c.args.number c.self.inside.map.entries ∙ ap (λ t. finite.get t.held c.args.number) c.self.view_is
