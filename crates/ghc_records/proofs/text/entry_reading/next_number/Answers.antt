use Rattle.ghc_records.proofs.EntryLines.{further, no_space, no_word}
use Rattle.ghc_records.proofs.text.entry_reading.next_number.Goals as goal

pub returns-in_default-clause-last : goal.returns-in_default-clause-last
returns-in_default-clause-last c = no_space c.args.bytes.now c.as_slice.result.now c.as_slice.ensures c.in_default.ensures.none

pub returns-in-Some-positive-clause-further : goal.returns-in-Some-positive-clause-further
returns-in-Some-positive-clause-further c = λ n ns named e.
    (further c.args.bytes.now c.as_slice.result.now c.in-Some.words.now c.split_word.result.0.now c.split_word.result.1.now c.as_slice.ensures c.in-Some.ensures.some c.split_word.ensures.parts c.split_word.ensures.plain
    c.split_word.ensures.rest n ns named e).1

pub returns-in-None-clause-last : goal.returns-in-None-clause-last
returns-in-None-clause-last c =
    no_word c.args.bytes.now c.as_slice.result.now c.in-Some.words.now c.split_word.result.0.now c.split_word.result.1.now c.as_slice.ensures c.in-Some.ensures.some c.split_word.ensures.parts c.split_word.ensures.plain
    c.split_word.ensures.rest c.in-None.ensures.none
