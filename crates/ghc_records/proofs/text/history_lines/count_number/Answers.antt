use Rattle.ghc_records.proofs.Words.{◌++◌, sym, ap, ◌∙◌, arith, decimal, rules, kept_limit}
use Rattle.ghc_records.proofs.AmountLines.{too_great}
use Rattle.ghc_records.proofs.text.history_lines.count_number.Goals as goal

pub returns-in_default-clause-none : goal.returns-in_default-clause-none
returns-in_default-clause-none c = λ count few e. c.in_default.ensures.none (decimal count) (e ∙ ap (λ l. l ++ decimal count) (sym c.as_slice.ensures))

pub returns-then-count-gt1000000-clause-none : goal.returns-then-count-gt1000000-clause-none
returns-then-count-gt1000000-clause-none c = λ count few e.
    too_great c.args.line.now c.as_slice.result.now c.in-Some.word.now c.in-Some-number.count kept_limit c.in-Some.ensures.some c.in-Some-number.ensures.some
    c.in-Some-number.ensures.small (search rules) (omega arith) count few (e ∙ ap (λ l. l ++ decimal count) (sym c.as_slice.ensures))
