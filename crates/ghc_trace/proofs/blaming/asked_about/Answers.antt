use Rattle.ghc_trace.proofs.Words.{◌≡◌, refl, Some, None, true, false, sym, ap, ◌∙◌, subst, option_copied, Goals, same_value}
use Rattle.std.specs.FinMap as finite
use Rattle.ghc_trace.specs.Blaming.{IsCall}
use Rattle.ghc_trace.proofs.blaming.asked_about.Goals as goal

pub returns-in_default : goal.returns-in_default
returns-in_default c t same g = (λ e. let clash : None ≡ Some g = e in cc, λ q. let clash : None ≡ Some g = sym c.in_default.is ∙ q.0 in cc)

pub returns-in_default-get : goal.returns-in_default-get
returns-in_default-get c t same g = (
  λ e. let clash : None ≡ Some g = e in cc,
  λ q.
      let name : c.in-Some.name ≡ g = same_value c.in-Some.is q.0 in
      let none : finite.get c.args.core.now.world.state.goals c.in-Some.name ≡ None = ap (λ (m : Goals). finite.get m c.in-Some.name) (sym c.goals.ensures) ∙ sym c.get.ensures ∙ ap option_copied c.in_default-get.is in
      let clash : None ≡ Some q.1 = sym none ∙ ap (finite.get c.args.core.now.world.state.goals) name ∙ sym (same g q.0) ∙ q.2 in cc,
)

pub returns-then-is_call : goal.returns-then-is_call
returns-then-is_call c t same g =
    let name = c.in-Some.name in
    let b = c.in-Some-get.goal.now in
    let is : finite.get c.args.core.now.world.state.goals name ≡ Some b = ap (λ (m : Goals). finite.get m name) (sym c.goals.ensures) ∙ sym c.get.ensures ∙ ap option_copied c.in-Some-get.is in (
      λ e.
          let one : name ≡ g = same_value refl e in
          (c.in-Some.is ∙ ap Some one, b, same g (c.in-Some.is ∙ ap Some one) ∙ ap (finite.get c.args.core.now.world.state.goals) (sym one) ∙ is, c.is_call.ensures.0 c.if-is_call.true),
      λ q. sym c.in-Some.is ∙ q.0,
    )

pub returns-else-is_call : goal.returns-else-is_call
returns-else-is_call c t same g = (
  λ e. let clash : None ≡ Some g = e in cc,
  λ q.
      let name : c.in-Some.name ≡ g = same_value c.in-Some.is q.0 in
      let b = c.in-Some-get.goal.now in
      let is : finite.get c.args.core.now.world.state.goals c.in-Some.name ≡ Some b =
      ap (λ (m : Goals). finite.get m c.in-Some.name) (sym c.goals.ensures) ∙ sym c.get.ensures ∙ ap option_copied c.in-Some-get.is in
      let one : q.1 ≡ b = same_value (sym (same g q.0) ∙ q.2) (ap (finite.get c.args.core.now.world.state.goals) (sym name) ∙ is) in
      let clash : false ≡ true = sym c.if-is_call.false ∙ c.is_call.ensures.1 (subst IsCall one q.3) in cc,
)
