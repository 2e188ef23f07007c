use Rattle.ghc_reader.proofs.Words.{◌≡◌, ◌++◌, take, views, names_of}
use Rattle.ghc_reader.proofs.limits.names.+names.Given as goal

abbrev pub invariant-push_terms-loop-term : goal.invariant-push_terms-loop-term
invariant-push_terms-loop-term l = l.out.items ≡ l.initial.out.items ++ names_of (views (take l.term-index l.terms))
