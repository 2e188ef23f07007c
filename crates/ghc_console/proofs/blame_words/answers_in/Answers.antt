use Rattle.ghc_console.proofs.CitedWords.{ap, inl, inr, refl, sym, ◌∙◌, in_front, words_of}
use Rattle.ghc_console.specs.BlameWords.{answers_of}
use Rattle.ghc_console.proofs.Answering.{answers_begun}
use Rattle.ghc_console.proofs.Ordering.{all_there, behind, none_there, one_more}
use Rattle.ghc_console.proofs.blame_words.answers_in.Goals as goal

pub loop-word-init : goal.loop-word-init
loop-word-init c =
    let all = answers_of (words_of c.args.words.now) in
    (ap (λ answers. behind answers all) c.new-answers.ensures ∙ none_there all, inl refl)

pub returns-in_default-answer_in-clause-found : goal.returns-in_default-answer_in-clause-found
returns-in_default-answer_in-clause-found c =
    let answers = c.loop-word.answers in
    let more = answers_of (words_of c.in-Some.behind.now) in
    sym (sym c.loop-word.invariant.0 ∙ ap (λ ws. behind answers (answers_of ws)) c.in-Some.ensures.found ∙ ap (λ a. behind answers (in_front a more)) (sym c.in_default-answer_in.ensures))

pub loop-word-preserved : goal.loop-word-preserved
loop-word-preserved c =
    let answers = c.loop-word.answers in
    let more = answers_of (words_of c.in-Some.behind.now) in
    let found = c.in-Some.ensures.found in (
      ap (λ there. behind there more) c.in_ok-push.ensures ∙ sym (one_more answers c.in-Some-answer_in.answer more) ∙ ap (λ a. behind answers (in_front a more)) c.in-Some-answer_in.ensures
          ∙ ap (λ ws. behind answers (answers_of ws)) (sym found) ∙ c.loop-word.invariant.0,
      inr (answers_begun _ _ _ _ _ c.loop-word.invariant.1 found c.in-Some-answer_in.ensures),
    )

pub returns-clause-found : goal.returns-clause-found
returns-clause-found c =
    let answers = c.loop-word.answers in
    sym (sym c.loop-word.invariant.0 ∙ ap (λ ws. behind answers (answers_of ws)) c.in_default.ensures.none ∙ all_there answers)
