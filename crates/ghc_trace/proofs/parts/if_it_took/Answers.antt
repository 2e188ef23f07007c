use Rattle.ghc_trace.proofs.Words.{◌≡◌, sym, ap, ◌∙◌, None, Some, option_copied, Record, same_value}
use Rattle.ghc_trace.proofs.WayUp.{one_goal, other_goal}
use Rattle.ghc_trace.proofs.parts.if_it_took.Goals as goal

pub returns-in_default : goal.returns-in_default
returns-in_default c r = (
  λ e. let clash : None ≡ Some r = e in cc,
  λ q. let clash : None ≡ Some r = sym (ap option_copied c.in_default.is) ∙ q.0 in cc,
)

pub returns-in_default-goal : goal.returns-in_default-goal
returns-in_default-goal c r = (
  λ e. let clash : None ≡ Some r = e in cc,
  λ q.
      let one : c.in-Some.found.now ≡ r = same_value (ap option_copied c.in-Some.is) q.0 in
      absurd (c.in_default-goal.not-Some c.args.goal (c.goal.ensures ∙ ap (λ (z : Record). z.goal) one ∙ q.1)),
)

pub returns-then-ne : goal.returns-then-ne
returns-then-ne c r = (
  λ e. let clash : None ≡ Some r = e in cc,
  λ q.
      let one : c.in-Some.found.now ≡ r = same_value (ap option_copied c.in-Some.is) q.0 in
      let same : c.in-Some-goal.taken ≡ c.args.goal = same_value (sym c.goal.ensures ∙ c.in-Some-goal.is) (ap (λ (z : Record). z.goal) one ∙ q.1) in
      absurd (other_goal c.in-Some-goal.taken c.args.goal c.ne.result c.ne.ensures c.if-ne.true same),
)

pub returns : goal.returns
returns c r =
    let took : c.in-Some.found.now.goal ≡ Some c.args.goal = sym c.goal.ensures ∙ c.in-Some-goal.is ∙ ap Some (one_goal c.in-Some-goal.taken c.args.goal c.ne.result c.ne.ensures c.if-ne.false) in (
      λ e. let one : c.in-Some.found.now ≡ r = cc in (ap option_copied c.in-Some.is ∙ ap Some one, ap (λ (z : Record). z.goal) (sym one) ∙ took),
      λ q. sym (ap option_copied c.in-Some.is) ∙ q.0,
    )
