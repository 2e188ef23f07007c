use Rattle.ghc_core.proofs.Words.{◌∙◌, ap, nat_eq, nat_cmp_total, nat_cmp-IsAntisymmetric as nat_antisymmetric, inserted, tie, with_hand, hands_with}
use Rattle.ghc_core.proofs.hands.Hands.hold.Goals as goal

pub returns-clause-ok : goal.returns-clause-ok
returns-clause-ok c =
    ap (hands_with c.self.inside.count) (inserted nat_cmp_total nat_antisymmetric nat_eq tie c.self.inside.map.entries c.insert.new.self.entries c.args.hand c.args.proposal c.in_ok-insert.ensures.updates.0)
    ∙ ap (with_hand c.args.hand c.args.proposal) c.self.view_is
