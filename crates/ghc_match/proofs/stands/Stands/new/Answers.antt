use Rattle.ghc_match.proofs.Words.{refl, ap, ◌∙◌, name_cmp, value_at}
use Rattle.std.specs.FinMap as finite
use Rattle.ghc_match.proofs.stands.Stands.new.Goals as goal

pub invariant_of-result : goal.invariant_of-result
invariant_of-result c = (refl, λ x s p. ap (λ m. value_at m x) c.new.ensures ∙ finite.get-empty name_cmp x)
