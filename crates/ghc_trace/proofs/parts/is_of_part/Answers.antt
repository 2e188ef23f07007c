use Rattle.ghc_trace.proofs.Words.{◌≡◌, not, sym, ap, ◌∙◌, subst, inl, inr, Some, GoalName, In, same_value}
use Rattle.ghc_trace.proofs.PartFinding.{in_numbers}
use Rattle.ghc_trace.proofs.WayUp.{other_goal}
use Rattle.ghc_trace.proofs.parts.is_of_part.Goals as goal

pub returns : goal.returns
returns c =
    let taken = c.in-Some.taken in
    let e : c.args.step.now.goal ≡ Some taken = sym c.goal.ensures ∙ c.in-Some.is in
    let has = in_numbers c.args.part.now taken.step c.contains.result c.contains.ensures in (
      λ h. (taken, e, inr (has.0 h)),
      λ up.
          let one : up.0 ≡ taken = same_value up.1 e in
          elim up.2 [
            | inl same ↦ absurd (other_goal taken c.args.goal (not c.eq.result) (ap not c.eq.ensures) (ap not c.if-eq.false) (sym one ∙ same))
            | inr i ↦ has.1 (subst (λ (k : GoalName). In k.step c.args.part.now.keys) one i)
          ],
    )
