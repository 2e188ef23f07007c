use Rattle.ghc_term.proofs.Words.{◌++◌, ap, ◌∙◌, arith, string_bytes, IfOk-weaker, arguments_text, all_resolved, total}
use Rattle.ghc_term.proofs.Pieces.{as_said, behind, first_rest}
use Rattle.ghc_term.proofs.printing.pieces.push_structure.Goals as goal

pub returns-in-len1-up-clause-text : goal.returns-in-len1-up-clause-text
returns-in-len1-up-clause-text c =
    let front = first_rest c.args.arguments.now c.first-item.result c.in-len1-up.len_at_least c.first-item.is in
    let name = c.in_ok-push_str.ensures.bytes ∙ ap (λ n. string_bytes c.args.out.now ++ n) c.as_str.ensures.bytes in
    IfOk-weaker c.push_argument.result _ _ (λ _ u r w g m.
    as_said r w _ _ _ _ _ _ _ _ (ap (λ ts. c.args.name.now ++ arguments_text (all_resolved r ts)) front) (omega (arith, ap (total w) front)) (behind r w c.args.name.now _ _ _ _ _ _ _ name (u r w g m))) c.push_argument.ensures.text
