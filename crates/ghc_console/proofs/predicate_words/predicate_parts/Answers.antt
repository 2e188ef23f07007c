use Rattle.ghc_console.proofs.CitedWords.{◌∙◌, ◌+◌, ap, drop, sym, take, take_rest, predicate_named, number_of}
use Rattle.ghc_console.proofs.PredicateWordLemmas.{at_stroke, no_name, no_stroke, with_arity}
use Rattle.ghc_console.proofs.predicate_words.predicate_parts.Goals as goal

pub returns-in_default-clause-none : goal.returns-in_default-clause-none
returns-in_default-clause-none c = no_stroke c.args.word.now c.in_default.ensures.none

pub returns-then-not-is_name_word-clause-none : goal.returns-then-not-is_name_word-clause-none
returns-then-not-is_name_word-clause-none c =
    let word = c.args.word.now in
    let i = c.in-Some.stroke in
    at_stroke word i c.in-Some.ensures.found c.in-Some.ensures.plain
    ∙ no_name (take i word) (number_of (drop (i + 1) word)) (sym c.is_name_word.ensures ∙ c.if-not-is_name_word.true)

pub returns-in-Some-number-clause-found : goal.returns-in-Some-number-clause-found
returns-in-Some-number-clause-found c =
    let word = c.args.word.now in
    let i = c.in-Some.stroke in
    let arity = ap number_of (sym (take_rest word (i + 1))) ∙ sym c.in-Some-number.ensures in
    at_stroke word i c.in-Some.ensures.found c.in-Some.ensures.plain
    ∙ ap (predicate_named (take i word)) arity
    ∙ with_arity (take i word) c.in-Some-number.arity (sym c.is_name_word.ensures ∙ c.if-not-is_name_word.false)

pub returns-in-None-clause-none : goal.returns-in-None-clause-none
returns-in-None-clause-none c =
    let word = c.args.word.now in
    let i = c.in-Some.stroke in
    let arity = ap number_of (sym (take_rest word (i + 1))) ∙ sym c.in-None.ensures in
    at_stroke word i c.in-Some.ensures.found c.in-Some.ensures.plain ∙ ap (predicate_named (take i word)) arity
