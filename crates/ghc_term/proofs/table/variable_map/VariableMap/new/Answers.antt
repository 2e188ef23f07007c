use Rattle.ghc_term.proofs.Words.{ap, ◌∙◌, arith, name_cmp, values_in}
use Rattle.std.specs.FinMap as finite
use Rattle.ghc_term.proofs.table.variable_map.VariableMap.new.Goals as goal

pub invariant_of-result : goal.invariant_of-result
invariant_of-result g c = (λ s x first. ap (λ es. finite.get (values_in es) x) c.with_hasher.ensures.empty ∙ finite.get-empty name_cmp x, omega arith)
