use Rattle.ghc_records.proofs.Words.{◌<◌, ◌∙◌, ap, sym, subst, nat_eq, nat_cmp_total, nat_cmp-IsAntisymmetric as nat_antisymmetric, done, tie}
use Rattle.std.specs.FinMap as finite
use Rattle.ghc_term.proofs.Indexed.{inserted}
use Rattle.ghc_records.proofs.shelf.Shelf.put.Goals as goal

pub returns-clause-held : goal.returns-clause-held
returns-clause-held c =
    let room = subst (λ t. 0 < t.room) (sym c.self.view_is) c.requires in
    inserted nat_cmp_total nat_antisymmetric nat_eq tie c.self.inside.map.entries c.insert.new.self.entries c.number.result c.args.step (done c.insert.result (c.insert.ensures.succeeds room) c.insert.ensures.updates).0
    ∙ ap (λ n. finite.insert (finite.from_entries c.self.inside.map.entries) n c.args.step) c.number.ensures ∙ ap (λ t. finite.insert t.held c.args.step.number c.args.step) c.self.view_is
