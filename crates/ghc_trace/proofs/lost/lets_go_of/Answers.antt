use Rattle.ghc_trace.proofs.Words.{◌≡◌, ◌↔◌, IsTrue, List, Goal, Some, None, sym, ap, ◌∙◌, subst, option_copied}
use Rattle.ghc_trace.specs.inner.WhyNotCode.{SomeHasOneOf}
use Rattle.ghc_trace.proofs.LostSteps.{by_no_clause, took_none, took_one, took_other}
use Rattle.ghc_trace.proofs.WrittenIn.{fails, holds}
use Rattle.ghc_trace.proofs.lost.lets_go_of.Goals as goal

pub returns-then-not-is_by_clause : goal.returns-then-not-is_by_clause
returns-then-not-is_by_clause c = by_no_clause c.args.xs.now c.args.step.now (fails c.is_by_clause.result c.if-not-is_by_clause.true c.is_by_clause.ensures)

pub returns-in_default : goal.returns-in_default
returns-in_default c = took_none c.args.xs.now c.args.step.now (sym c.consumed.ensures ∙ ap option_copied c.in_default.is)

pub returns-then-not-has : goal.returns-then-not-has
returns-then-not-has c =
    took_other c.args.xs.now c.args.step.now c.in-Some.taken.now (sym c.consumed.ensures ∙ ap option_copied c.in-Some.is) (fails c.in_ok-has.has c.if-not-has.true c.in_ok-has.ensures)

pub returns : goal.returns
returns c =
    let xs = c.args.xs.now in
    let given = c.in_ok-is_given_on.is_given_on in
    let makes : c.makes.result.now ≡ c.args.step.now.effect.makes = c.makes.ensures ∙ ap (λ e. e.makes) c.effect.ensures in
    took_one xs c.args.step.now (holds c.is_by_clause.result c.if-not-is_by_clause.false c.is_by_clause.ensures) c.in-Some.taken.now (sym c.consumed.ensures ∙ ap option_copied c.in-Some.is)
    (holds c.in_ok-has.has c.if-not-has.false c.in_ok-has.ensures) given (subst (λ (l : List Goal). IsTrue given ↔ SomeHasOneOf xs l) makes c.in_ok-is_given_on.ensures)
