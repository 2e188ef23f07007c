use Rattle.std.proofs.Common.{◌∙◌, ap}
use Rattle.std.specs.FinMap as finite
use Rattle.ghc_records.proofs.table.binders.Binders.get.Goals as goal

pub returns : goal.returns
returns c = c.copied.ensures ∙ c.get.ensures ∙ ap (λ t. finite.get t.held c.args.x) c.self.view_is
