use Rattle.ghc_console.proofs.CitedWords.{◌≡◌, ◌++◌, List, ℕ, codes, sym, subst, ap, ◌∙◌, string_bytes, lined}
use Rattle.ghc_term.specs.Lists.{In}
use Rattle.ghc_trace.specs.declared.holding.Holder.{Holder}
use Rattle.ghc_trace.specs.Explaining.{AreHolderLines, AreStepLines}
use Rattle.ghc_console.specs.Explaining.{RepliesToExplain, explains, steps_line}
use Rattle.ghc_console.proofs.ExplainReplies.{joined, reaching_there, told_kept}
use Rattle.ghc_console.proofs.replies.explain.told.Goals as goal

pub push_holders-requires-clause-there : goal.push_holders-requires-clause-there
push_holders-requires-clause-there c h i =
    reaching_there c.args.core.now.world.state h ((c.in_ok-held.ensures.1 h).0 (subst (λ (l : List Holder). In h l) c.as_slice.ensures.value i)).1

pub push_steps-requires : goal.push_steps-requires
push_steps-requires c n i =
    let told = c.in_ok-slice.ensures in
    told_kept c.args.core.now.world.kept told.0 c.in_ok-slice.slice.items told.2.0 told.3 n (subst (λ (l : List ℕ). In n l) c.as_slice-2.ensures.value i)

pub returns : goal.returns
returns c =
    let w = c.args.core.now.world in
    let word = c.args.word.now in
    let term = c.args.term.now in
    let slice = c.in_ok-slice.slice.items in
    let hs = c.in_ok-held.held.items in
    let held = c.in_ok-push_holders.ensures in
    let steps = c.in_ok-push_steps.ensures in
    let first = lined (word ++ (codes " = " ++ term)) in
    let last = steps_line slice w.kept in
    let written : string_bytes c.push_steps_line.new.reply ≡ first ++ (held.0 ++ (steps.0 ++ last)) =
    c.in_ok-push_steps_line.ensures ∙ ap (λ ns. string_bytes c.push_steps.new.out ++ steps_line ns w.kept) c.as_slice-3.ensures.value
    ∙ ap (λ t. t ++ last) (steps.2 ∙ ap (λ t. t ++ steps.0) (held.2 ∙ ap (λ t. t ++ held.0) c.in_ok-shown.ensures)) ∙ joined first held.0 steps.0 last in
    subst (RepliesToExplain w word) (sym written)
    (explains c.args.x term held.0 steps.0 slice hs c.requires.named c.requires.text c.requires.short c.in_ok-held.ensures (subst (λ (l : List Holder). AreHolderLines w l held.0) c.as_slice.ensures.value held.1)
    c.in_ok-slice.ensures (subst (λ (l : List ℕ). AreStepLines w l steps.0) c.as_slice-2.ensures.value steps.1))
