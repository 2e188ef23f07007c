use Rattle.ghc_core.proofs.Words.{◌∙◌, ap, nat_eq, nat_cmp_total, nat_cmp-IsAntisymmetric as nat_antisymmetric, value_is, removed, tie, emptied, hands_with}
use Rattle.std.specs.FinMap as finite
use Rattle.ghc_core.proofs.hands.Hands.release.Goals as goal

pub returns-clause-value : goal.returns-clause-value
returns-clause-value c = c.swap_remove.ensures.value ∙ value_is nat_cmp_total nat_antisymmetric nat_eq tie c.args.hand c.self.inside.map.entries ∙ ap (λ t. finite.get t.held c.args.hand) c.self.view_is

pub returns-clause-left : goal.returns-clause-left
returns-clause-left c =
    ap (hands_with c.self.inside.count) (removed nat_cmp_total nat_antisymmetric nat_eq tie c.self.inside.map.entries c.swap_remove.new.self.entries c.args.hand c.swap_remove.ensures.updates.0)
    ∙ ap (emptied c.args.hand) c.self.view_is
