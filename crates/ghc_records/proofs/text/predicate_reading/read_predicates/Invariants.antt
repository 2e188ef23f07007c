use Rattle.ghc_records.proofs.Words.{pieces_of, GoTogether, SaysPredicate}
use Rattle.ghc_records.proofs.SectionLemmas.{HasRead}
use Rattle.ghc_records.proofs.text.predicate_reading.read_predicates.Given as goal

abbrev pub invariant-loop-index : goal.invariant-loop-index
invariant-loop-index l = HasRead SaysPredicate GoTogether (pieces_of l.text) l.index l.rest l.predicates.items
