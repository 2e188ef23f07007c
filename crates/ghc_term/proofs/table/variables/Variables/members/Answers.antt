use Rattle.std.proofs.Common.{◌∙◌, ap, sym, length}
use Rattle.std.specs.FinSet as set
use Rattle.ghc_term.proofs.SetsLemmas.{list_len}
use Rattle.ghc_term.proofs.table.variables.Variables.members.Goals as goal

pub returns-clause-all : goal.returns-clause-all
returns-clause-all c = ap (λ ks. set.from_list ks) c.as_slice.ensures.variables ∙ c.self.view_is

pub returns-clause-once : goal.returns-clause-once
returns-clause-once c = ap length c.as_slice.ensures.variables ∙ sym (list_len c.self.inside.members c.as_slice.ensures.different) ∙ ap set.len c.self.view_is
