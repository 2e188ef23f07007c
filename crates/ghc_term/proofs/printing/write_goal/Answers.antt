use Rattle.ghc_term.proofs.Words.{◌++◌, append-nil, refl, ap, ◌∙◌, string_bytes, IfOk-weaker, goal_text, pieces_text}
use Rattle.std.specs.FinMap as finite
use Rattle.ghc_term.proofs.Resolving.{each_itself}
use Rattle.ghc_term.proofs.printing.write_goal.Goals as goal

pub returns-clause-text : goal.returns-clause-text
returns-clause-text c =
    let text = goal_text c.args.goal.now in
    let before = string_bytes c.args.out.now in
    let begun = c.in_ok-push_goal.ensures.text (λ t. t) (each_itself finite.empty refl) in
    IfOk-weaker c.write_written.result _ _ (λ _ e. e ∙ begun ∙ ap (λ ps. before ++ (text ++ pieces_text (λ t. t) ps)) c.new-pieces.ensures.items ∙ ap (λ l. before ++ l) (append-nil text)) c.write_written.ensures.text
