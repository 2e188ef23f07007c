use Rattle.ghc_core.proofs.Words.{◌≢◌, [], refl, sym, ◌∙◌, subst, arith, take_all, In, one_more_member, In_at, no_step, first_in, IsVariableOf, firsts_in, false≢true}
use Rattle.ghc_term.specs.Variables.{variables_of_goals}
use Rattle.ghc_term.proofs.ListsLemmas.{not_both}
use Rattle.ghc_core.proofs.changes.ask.ask_is_known.Goals as goal

pub returns-then-not-is_own_or_of : goal.returns-then-not-is_own_or_of
returns-then-not-is_own_or_of c =
    let items = c.variables-x-items.result.now in
    let there = subst (In _) c.variables-x-items.ensures (In_at items c.loop-x.x-index (record { step = 0; place = 0 }) c.loop-x-test.true) in
    let among = firsts_in [] (variables_of_goals c.args.ask.now) _ there in
    (λ no. absurd (false≢true no), λ known. absurd (not_both _ c.if-not-is_own_or_of.true (c.is_own_or_of.ensures.1 (known _ among))))

pub loop-x-preserved : goal.loop-x-preserved
loop-x-preserved c =
    one_more_member (λ x. x.step ≢ no_step → IsVariableOf c.args.query.now.goals c.args.records.now.held x) c.variables-x-items.result.now c.loop-x.x-index (record { step = 0; place = 0 }) c.loop-x-test.true c.loop-x.invariant
    (c.is_own_or_of.ensures.0 c.if-not-is_own_or_of.false)

pub returns : goal.returns
returns c =
    let items = c.variables-x-items.result.now in
    let all = take_all c.loop-x.x-index items (omega (arith, c.loop-x-test.false)) ∙ c.variables-x-items.ensures in (
      λ yes x i other. c.loop-x.invariant x (subst (In x) (sym all) (first_in [] (variables_of_goals c.args.ask.now) x i refl)) other,
      λ _. refl,
    )
