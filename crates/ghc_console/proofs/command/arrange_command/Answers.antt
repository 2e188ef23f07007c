use Rattle.ghc_console.proofs.CitedWords.{ap, inl, inr, refl, sym, ◌∙◌, arrange_with, in_front, numbers_of, words_of}
use Rattle.ghc_console.proofs.Ordering.{all_there, begun, behind, none_there, one_more}
use Rattle.ghc_console.proofs.command.arrange_command.Goals as goal

pub loop-word-init : goal.loop-word-init
loop-word-init c =
    let all = numbers_of (words_of c.args.words.now) in
    (ap (λ order. behind order all) c.new-order.ensures ∙ none_there all, inl refl)

pub returns-in_default-number-clause-command : goal.returns-in_default-number-clause-command
returns-in_default-number-clause-command c =
    let order = c.loop-word.order in
    let more = numbers_of (words_of c.in-Some.behind.now) in
    sym (ap arrange_with (sym c.loop-word.invariant.0 ∙ ap (λ ws. behind order (numbers_of ws)) c.in-Some.ensures.found ∙ ap (λ n. behind order (in_front n more)) (sym c.in_default-number.ensures)))

pub loop-word-preserved : goal.loop-word-preserved
loop-word-preserved c =
    let order = c.loop-word.order in
    let more = numbers_of (words_of c.in-Some.behind.now) in
    let found = c.in-Some.ensures.found in (
      ap (λ o. behind o more) c.in_ok-push.ensures.pushed ∙ sym (one_more order c.in-Some-number.step more) ∙ ap (λ n. behind order (in_front n more)) c.in-Some-number.ensures
          ∙ ap (λ ws. behind order (numbers_of ws)) (sym found) ∙ c.loop-word.invariant.0,
      inr (begun _ _ _ _ _ c.loop-word.invariant.1 found c.in-Some-number.ensures),
    )

pub returns-clause-command : goal.returns-clause-command
returns-clause-command c =
    let order = c.loop-word.order in
    sym (ap arrange_with (sym c.loop-word.invariant.0 ∙ ap (λ ws. behind order (numbers_of ws)) c.in_default.ensures.none ∙ all_there order))
