use Rattle.ghc_records.proofs.Words.{◌∷◌, ap, ◌∙◌, pieces_of, end_line}
use Rattle.ghc_records.proofs.CutLemmas.{drop_next, line_stands}
use Rattle.ghc_records.proofs.text.history_lines.find_end.Goals as goal

pub returns-in-Some-end_number-clause-some : goal.returns-in-Some-end_number-clause-some
returns-in-Some-end_number-clause-some c =
    let e = c.in-Some-end_number.ensures in (
      line_stands (pieces_of c.args.text.now) c.args.count c.in-Some.end.now (end_line c.in-Some-end_number.next) c.in-Some-next_line.rest.now c.in-Some.ensures.some
          (c.in-Some-next_line.ensures.found ∙ ap (λ l. l ∷ pieces_of c.in-Some-next_line.rest.now) e.some),
      e.first,
      e.small,
    )

pub returns-in-Some-end_number-clause-rest : goal.returns-in-Some-end_number-clause-rest
returns-in-Some-end_number-clause-rest c = drop_next (pieces_of c.args.text.now) c.args.count c.in-Some-next_line.line.now _ (c.in-Some.ensures.some ∙ c.in-Some-next_line.ensures.found)
