use Rattle.ghc_records.proofs.Words.{◌∙◌, ap}
use Rattle.ghc_records.proofs.StrayPlaces.{put_in_tree}
use Rattle.ghc_records.proofs.table.strays.Strays.reserve.Goals as goal

pub invariant_of-self-2 : goal.invariant_of-self-2
invariant_of-self-2 c none =
    put_in_tree c.self.inside.newest c.self.inside.older.entries c.insert.new.self.entries _ c.in-Some.is c.in_ok-insert.ensures.updates.0 ∙ c.self.invariant none

pub returns-clause-held : goal.returns-clause-held
returns-clause-held c =
    put_in_tree c.self.inside.newest c.self.inside.older.entries c.insert.new.self.entries _ c.in-Some.is c.in_ok-insert.ensures.updates.0 ∙ ap (λ t. t.held) c.self.view_is
