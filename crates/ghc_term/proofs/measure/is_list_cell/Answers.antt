use Rattle.ghc_term.proofs.Words.{sym, ap, ◌∙◌, codes, bytes_eq}
use Rattle.ghc_term.proofs.Heads.{is_cell_by_count}
use Rattle.ghc_term.proofs.measure.is_list_cell.Goals as goal

pub returns-then-eq : goal.returns-then-eq
returns-then-eq c = is_cell_by_count c.args.name.now c.args.arguments.now (ap (λ b. bytes_eq b (codes ".")) (sym c.as_str.ensures.bytes) ∙ (sym c.eq.ensures ∙ c.if-eq.true))
