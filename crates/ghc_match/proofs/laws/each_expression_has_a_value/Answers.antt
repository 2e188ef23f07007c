use Rattle.ghc_match.proofs.EachValue.{each_value}
use Rattle.ghc_match.proofs.laws.each_expression_has_a_value.Goals as goal

pub returns : goal.returns
returns c = each_value
