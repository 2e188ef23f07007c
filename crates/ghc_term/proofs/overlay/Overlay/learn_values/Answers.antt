use Rattle.ghc_term.proofs.Words.{sym, ◌∙◌}
use Rattle.ghc_term.proofs.Far.{value_added, all_known}
use Rattle.ghc_term.proofs.overlay.Overlay.learn_values.Goals as goal

pub loop-index-preserved : goal.loop-index-preserved
loop-index-preserved c = value_added c.loop-index.known c.add_those_of_value.new.seen c.loop-index.index c.in-Some.x (sym c.in-Some.ensures) c.in_ok-add_those_of_value.ensures c.loop-index.invariant

pub returns-in_default : goal.returns-in_default
returns-in_default c = all_known c.loop-index.known c.loop-index.index (sym c.name_at.ensures ∙ c.in_default.is) c.loop-index.invariant
