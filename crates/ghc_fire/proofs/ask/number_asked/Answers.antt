use Rattle.ghc_fire.proofs.Words.{map, [], ap, sym, ◌∙◌, variables_of_goals, firsts, renumbered, asked_as}
use Rattle.ghc_fire.proofs.Asking.{numbered_firsts}
use Rattle.ghc_fire.proofs.ask.number_asked.Goals as goal

pub of-requires-clause-variables : goal.of-requires-clause-variables
of-requires-clause-variables c =
    let gs = c.args.ask.now in
    let n = c.args.number in
    c.in_ok-variables.ensures ∙ ap (map (renumbered n)) c.variables.ensures ∙ sym (numbered_firsts gs n c.requires c.goals.ensures.proper.0.plain)
    ∙ sym (ap (λ hs. firsts [] (variables_of_goals hs)) (c.in_ok-goals.ensures ∙ ap (asked_as n) c.goals.ensures.goals))
