use Rattle.ghc_fire.proofs.Words.{◌≡◌, length, filter, is_none, map, ap, sym, ◌∙◌, subst, [], variables_of_goals, firsts, replace_in_goal, no_step, AreAskable, own_variables, made_from, called, called_by, asked_of}
use Rattle.ghc_fire.proofs.Asking.{written_askable, written_firsts, written_own}
use Rattle.ghc_fire.proofs.ask.Ask.of_written.Goals as goal

pub of-requires-clause-variables : goal.of-requires-clause-variables
of-requires-clause-variables c =
    let a = c.args.written in
    let named = c.in_ok-variables.ensures.variables ∙ ap (called 1) (c.deref.ensures.value ∙ c.into_parts-goals.ensures.named) in
    let names : c.deref-3.result.now ≡ called 1 a.named = c.deref-3.ensures.value ∙ named in
    let parts : c.deref-2.result.now ≡ a.goals = c.deref-2.ensures.value ∙ c.into_parts-goals.ensures.goals in
    let goals : c.in_ok-goals.goals.items ≡ asked_of a = c.in_ok-goals.ensures ∙ (λ i. map (replace_in_goal (called_by (names i))) (parts i)) in
    c.in_ok-variables-2.ensures ∙ ap (firsts []) (c.deref-4.ensures.value ∙ named) ∙ sym (ap (λ gs. firsts [] (variables_of_goals gs)) goals ∙ written_firsts a c.into_parts-goals.ensures.well_put)

pub invariant_of-result : goal.invariant_of-result
invariant_of-result c =
    let a = c.args.written in
    let told = c.deref.ensures.value ∙ c.into_parts-goals.ensures.named in
    let names : c.deref-3.result.now ≡ called 1 a.named = c.deref-3.ensures.value ∙ c.in_ok-variables.ensures.variables ∙ ap (called 1) told in
    let parts : c.deref-2.result.now ≡ a.goals = c.deref-2.ensures.value ∙ c.into_parts-goals.ensures.goals in
    let goals : c.in_ok-asked.asked ≡ asked_of a = c.in_ok-asked.ensures ∙ c.in_ok-goals.ensures ∙ (λ i. map (replace_in_goal (called_by (names i))) (parts i)) in
    let new = c.in_ok-variables.ensures.fresh ∙ ap (λ os. length (filter is_none os)) told in (
      subst AreAskable (sym goals) (written_askable a c.into_parts-goals.ensures.well_put),
      ap (own_variables no_step) goals ∙ written_own a c.into_parts-goals.ensures.well_put ∙ ap (made_from no_step 1) (sym new),
    )
