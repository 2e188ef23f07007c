use Rattle.ghc_console.proofs.CitedWords.{◌≡◌, ◌≢◌, ◌<◌, length, subst, refl, All, HoldsAt, codes, not_both}
use Rattle.ghc_console.proofs.GivenNames.{given, none_given}
use Rattle.ghc_console.proofs.named_variable.given_name.Goals as goal

pub returns-in-Some-clause-found : goal.returns-in-Some-clause-found
returns-in-Some-clause-found c =
    let names = c.variables.ensures in
    let low : c.in-Some.index < length c.args.query.now.variables = subst (λ l. c.in-Some.index < length l) names c.in-Some.ensures.bound in
    let at = subst (λ l. HoldsAt (λ name. name ≡ c.args.word.now) l c.in-Some.index) names c.in-Some.ensures.found in
    let named : c.args.word.now ≢ codes "_" = λ e. not_both c.is_blank.result c.if-is_blank.false (c.is_blank.ensures.1 e) in
    given c.args.query.now.variables c.args.word.now c.in-Some.index _ low at named refl

pub returns-in-None-clause-none : goal.returns-in-None-clause-none
returns-in-None-clause-none c = none_given c.args.query.now.variables c.args.word.now (subst (λ l. All (λ name. name ≢ c.args.word.now) l) c.variables.ensures c.in-None.ensures.none)
