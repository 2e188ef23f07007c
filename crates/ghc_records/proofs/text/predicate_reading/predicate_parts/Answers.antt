use Rattle.ghc_records.proofs.PredicateLines.{no_predicate, predicate_apart, unnamed}
use Rattle.ghc_records.proofs.text.predicate_reading.predicate_parts.Goals as goal

pub returns-in_default-clause-none : goal.returns-in_default-clause-none
returns-in_default-clause-none c = no_predicate c.args.line.now c.in_default.ensures.none

pub returns-then-not-is_name-clause-none : goal.returns-then-not-is_name-clause-none
returns-then-not-is_name-clause-none c =
    unnamed c.args.line.now c.in-Some.name.now c.in-Some.word.now c.is_name.result c.in-Some.ensures.found c.in-Some.ensures.plain c.is_name.ensures.1 c.if-not-is_name.true

pub returns-in-None-clause-none : goal.returns-in-None-clause-none
returns-in-None-clause-none c = λ p says.
    c.in-None.ensures.none p.arity says.2 (predicate_apart c.args.line.now c.in-Some.name.now c.in-Some.word.now p c.in-Some.ensures.found c.in-Some.ensures.plain says).1
