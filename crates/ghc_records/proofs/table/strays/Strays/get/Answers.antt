use Rattle.ghc_records.proofs.Words.{◌∙◌, ap}
use Rattle.std.specs.FinMap as finite
use Rattle.ghc_records.proofs.StrayPlaces.{found_newest, found_older, found_in_tree}
use Rattle.ghc_records.proofs.table.strays.Strays.get.Goals.{in-Some+else-newest-number, in_default}
use Rattle.ghc_records.proofs.table.strays.Strays.get.Goals as goal

pub returns-then-newest-number : goal.returns-then-newest-number
returns-then-newest-number c =
    found_newest c.self.inside.newest c.self.inside.older.entries _ c.args.number c.in-Some.is c.if-newest-number.true ∙ ap (λ t. finite.get t.held c.args.number) c.self.view_is

pub returns : goal.returns
returns c =
    let newest = c.self.inside.newest in
    let es = c.self.inside.older.entries in
    let n = c.args.number in
    let found = c.copied.ensures ∙ c.get.ensures.value in
    found ∙ elim c.match-self.branch [
      | in-Some+else-newest-number w ↦ found_older newest es _ n w.in-Some.is w.if-newest-number.false
      | in_default w ↦ found_in_tree newest es n w.in_default.is
    ] ∙ ap (λ t. finite.get t.held n) c.self.view_is
