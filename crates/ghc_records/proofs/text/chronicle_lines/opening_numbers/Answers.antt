use Rattle.std.proofs.Common.{◌∷◌, ◌++◌, ap, sym, ◌∙◌, decimal}
use Rattle.ghc_records.proofs.AmountLines.{no_opening_words, one_word_only}
use Rattle.ghc_records.proofs.text.chronicle_lines.opening_numbers.Goals as goal

pub returns-in_default-clause-none : goal.returns-in_default-clause-none
returns-in_default-clause-none c = λ next count fits few e. c.in_default.ensures.none (decimal count ++ 32 ∷ decimal next) (e ∙ ap (λ l. l ++ (decimal count ++ 32 ∷ decimal next)) (sym c.as_slice.ensures))

pub returns-in_default-cut-clause-none : goal.returns-in_default-cut-clause-none
returns-in_default-cut-clause-none c = one_word_only c.args.line.now c.as_slice.result.now c.in-Some.words.now c.as_slice.ensures c.in-Some.ensures.some c.in_default-cut.ensures.none

pub returns-clause-none : goal.returns-clause-none
returns-clause-none c =
    no_opening_words c.args.line.now c.as_slice.result.now c.in-Some.words.now c.in-Some-cut.count.now c.in-Some-cut.next.now c.opening_words.result c.as_slice.ensures c.in-Some.ensures.some
    c.in-Some-cut.ensures.found c.in-Some-cut.ensures.plain c.opening_words.ensures.none
