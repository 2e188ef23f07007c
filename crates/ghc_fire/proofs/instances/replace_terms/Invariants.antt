use Rattle.ghc_fire.proofs.Words.{◌≡◌, map, take, replace, replacement}
use Rattle.ghc_fire.proofs.instances.replace_terms.Given as goal

abbrev pub invariant-loop-term : goal.invariant-loop-term
invariant-loop-term l = l.replaced.items ≡ map (replace (replacement l.by)) (take l.term-index l.terms)
