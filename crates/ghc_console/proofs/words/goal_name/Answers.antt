use Rattle.ghc_console.proofs.CitedWords.{◌∙◌, ◌+◌, ap, sym, take, take_rest, goal_named, number_of}
use Rattle.ghc_console.proofs.WordLemmas.{goal_at_point, no_point}
use Rattle.ghc_console.proofs.words.goal_name.Goals as goal

pub returns-in-None : goal.returns-in-None
returns-in-None c = sym (no_point c.args.word.now c.in-None.ensures.none)

pub returns-in-Some : goal.returns-in-Some
returns-in-Some c =
    let word = c.args.word.now in
    let i = c.in-Some.point in
    let place = c.number-in-Some.ensures ∙ ap number_of (take_rest word (i + 1)) in
    c.goal_of.ensures ∙ ap (λ s. goal_named s c.number-in-Some.result) c.number.ensures
    ∙ ap (goal_named (number_of (take i word))) place ∙ sym (goal_at_point word i c.in-Some.ensures.found c.in-Some.ensures.plain)
