use Rattle.ghc_term.proofs.Words.{◌++◌, append-nil, refl, ap, ◌∙◌, string_bytes, IfOk-weaker, term_text, pieces_text}
use Rattle.std.specs.FinMap as finite
use Rattle.ghc_term.proofs.Total.{empty_acyclic}
use Rattle.ghc_term.proofs.Resolving.{each_itself, measure, is_measure}
use Rattle.ghc_term.proofs.printing.write_term.Goals as goal

pub returns-clause-text : goal.returns-clause-text
returns-clause-text c =
    let text = term_text c.args.term.now in
    let before = string_bytes c.args.out.now in
    let begun = (c.in_ok-push_piece.ensures.text (λ t. t) (measure finite.empty) (each_itself finite.empty refl) (is_measure finite.empty (empty_acyclic finite.empty refl))).whole in
    IfOk-weaker c.write_written.result _ _ (λ _ e. e ∙ begun ∙ ap (λ ps. before ++ (text ++ pieces_text (λ t. t) ps)) c.new-pieces.ensures.items ∙ ap (λ l. before ++ l) (append-nil text)) c.write_written.ensures.text
