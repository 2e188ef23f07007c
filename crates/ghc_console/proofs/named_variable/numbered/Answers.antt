use Rattle.ghc_console.proofs.CitedWords.{◌≡◌, ◌∙◌, ◌+◌, ◌∷◌, take, ap, sym, take_rest, numbered_of, variable_numbered, number_of}
use Rattle.ghc_console.proofs.NumberedWords.{one_bar, two_bars}
use Rattle.ghc_console.proofs.named_variable.numbered.Goals as goal

pub returns-in-None : goal.returns-in-None
returns-in-None c =
    let numbers = c.in-Some-eq95-default.numbers.now in
    let whole : c.args.word.now ≡ 95 ∷ numbers = c.in-Some-eq95-default.ensures.cases.0 ∙ ap (λ b. b ∷ numbers) c.in-Some-eq95-default.field-0-0-test in
    sym (ap numbered_of whole ∙ one_bar numbers c.in-None.ensures.none)

pub returns-in-Some : goal.returns-in-Some
returns-in-Some c =
    let numbers = c.in-Some-eq95-default.numbers.now in
    let i = c.in-Some.bar in
    let whole : c.args.word.now ≡ 95 ∷ numbers = c.in-Some-eq95-default.ensures.cases.0 ∙ ap (λ b. b ∷ numbers) c.in-Some-eq95-default.field-0-0-test in
    let place = c.number-in-Some.ensures ∙ ap number_of (take_rest numbers (i + 1)) in
    c.variable_of.ensures ∙ ap (λ s. variable_numbered s c.number-in-Some.result) c.number.ensures
    ∙ ap (variable_numbered (number_of (take i numbers))) place
    ∙ sym (ap numbered_of whole ∙ two_bars numbers i c.in-Some.ensures.found c.in-Some.ensures.plain)
