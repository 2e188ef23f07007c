use Rattle.ghc_trace.proofs.Words.{◌≡◌, Bool, true, false, Some, None, not, refl, sym, ap, ◌∙◌, same_value}
use Rattle.ghc_trace.proofs.WayUp.{one_goal, other_goal}
use Rattle.ghc_trace.proofs.blame_lines.is_target.Goals as goal

pub returns-in_default : goal.returns-in_default
returns-in_default c = (λ h. let clash : false ≡ true = h in cc, λ e. let clash : None ≡ Some c.args.name = sym c.in_default.is ∙ e in cc)

pub returns : goal.returns
returns c =
    let g = c.in-Some.target in
    let h = c.args.name in (
      λ yes. c.in-Some.is ∙ ap Some (one_goal g h (not c.eq.result) (ap not c.eq.ensures) (ap not yes)),
      λ e. not_false c.eq.result (λ no. other_goal g h (not c.eq.result) (ap not c.eq.ensures) (ap not no) (same_value c.in-Some.is e)),
    )
  where
    not_false : (b : Bool) → ¬ (b ≡ false) → b ≡ true
    not_false true n = refl
    not_false false n = absurd (n refl)
