use Rattle.std.proofs.Common.{◌∙◌, ap}
use Rattle.std.specs.FinSet as set
use Rattle.ghc_term.proofs.VariableLists.{placed}
use Rattle.ghc_term.proofs.table.variables.Variables.contains.Goals as goal

pub returns : goal.returns
returns c = c.is_some.ensures ∙ placed c.place_of.result c.self.inside.members c.args.x c.place_of.ensures.found c.place_of.ensures.none ∙ ap (λ s. set.contains s c.args.x) c.self.view_is
