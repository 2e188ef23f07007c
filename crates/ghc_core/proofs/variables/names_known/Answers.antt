use Rattle.ghc_core.proofs.Words.{◌≢◌, refl, sym, ap, ◌∙◌, subst, arith, take_all, In, one_more_member, In_at, variables_asked, IsVariableOf, false≢true}
use Rattle.ghc_term.proofs.ListsLemmas.{not_both}
use Rattle.ghc_core.proofs.variables.names_known.Goals as goal

pub returns-then-not-is_own_or_of : goal.returns-then-not-is_own_or_of
returns-then-not-is_own_or_of c =
    let items = c.variables-x-items.result.now in
    let all = c.variables-x-items.ensures ∙ ap variables_asked c.act.ensures in
    let there = subst (In _) all (In_at items c.loop-x.x-index (record { step = 0; place = 0 }) c.loop-x-test.true) in (
      λ no. absurd (false≢true no),
      λ known.
          let yes = c.is_own_or_of.ensures.1 (λ other. known _ (there, λ own. other (own ∙ sym c.number-number.ensures))) in
          absurd (not_both _ c.if-not-is_own_or_of.true yes),
    )

pub loop-x-preserved : goal.loop-x-preserved
loop-x-preserved c =
    one_more_member (λ x. x.step ≢ c.number-number.result → IsVariableOf c.args.query.now.goals c.args.records.now.held x) c.variables-x-items.result.now c.loop-x.x-index (record { step = 0; place = 0 }) c.loop-x-test.true c.loop-x.invariant
    (c.is_own_or_of.ensures.0 c.if-not-is_own_or_of.false)

pub returns : goal.returns
returns c =
    let items = c.variables-x-items.result.now in
    let all = c.variables-x-items.ensures ∙ ap variables_asked c.act.ensures in (
      λ yes x named. c.loop-x.invariant x (subst (In x) (sym (take_all c.loop-x.x-index items (omega (arith, c.loop-x-test.false)) ∙ all)) named.0) (λ own. named.1 (own ∙ c.number-number.ensures)),
      λ _. refl,
    )
