use Rattle.std.proofs.Common.{◌++◌, sym, ap, ◌∙◌, decimal}
use Rattle.ghc_records.proofs.text.history_lines.end_number.Goals as goal

pub returns-in-None-clause-none : goal.returns-in-None-clause-none
returns-in-None-clause-none c = λ next first small e. c.in-None.ensures.none (decimal next) (e ∙ ap (λ l. l ++ decimal next) (sym c.as_slice.ensures))
