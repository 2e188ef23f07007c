use Rattle.ghc_console.proofs.CitedWords.{◌≡◌, ◌++◌, codes, sym, subst, ap, ◌∙◌, string_bytes, lined}
use Rattle.ghc_console.specs.WhyNot.{RepliesToWhyNot, asks_why_not}
use Rattle.ghc_console.proofs.StepReplies.{on_ok}
use Rattle.ghc_console.proofs.replies.why_not.told.Goals as goal

pub returns : goal.returns
returns c = on_ok c.push_why_not.result c.push_why_not.ensures (λ why.
    let w = c.args.core.now.world in
    let word = c.args.word.now in
    let term = c.args.term.now in
    let written : string_bytes c.push_why_not.new.out ≡ lined (word ++ (codes " = " ++ term)) ++ why.0 = why.2 ∙ ap (λ t. t ++ why.0) c.in_ok-shown.ensures in
    subst (RepliesToWhyNot w word) (sym written) (asks_why_not c.args.x term why.0 c.requires.named c.requires.text c.requires.short why.1))
