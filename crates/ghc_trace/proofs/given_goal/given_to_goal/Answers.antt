use Rattle.ghc_trace.proofs.Words.{◌≡◌, true, false, refl, sym, ◌∙◌, subst, AreDistinct, numbers, held_in, MakesGoal, value_at}
use Rattle.ghc_match.specs.Looked.{GoalLooksAt}
use Rattle.ghc_depend.specs.Slices.{GaveGoal}
use Rattle.ghc_trace.specs.Causes.{AreBindersOf}
use Rattle.ghc_trace.proofs.Giving.{AreNumbersOf, givers_end, turned}
use Rattle.ghc_trace.proofs.given_goal.given_to_goal.Goals.{then-is_some+in_ok-push, else-is_some}
use Rattle.ghc_trace.proofs.given_goal.given_to_goal.Goals as goal

pub returns : goal.returns
returns c =
    let w = c.args.core.now.world in
    let ss = c.records-records.result.now.slots in
    let held = c.len-count.ensures.slots in
    let g = c.args.name in
    let b = c.args.goal.now in
    let Q = GoalLooksAt w.opening.program (value_at w.state.store) b in
    let All = GaveGoal w.opening.program (value_at w.state.store) g b in
    let ns = c.in_ok-givers.givers.items in
    let distinct = subst (λ l. AreDistinct (numbers l)) held c.len-count.ensures.distinct in
    let kept : held_in ss ≡ w.kept = sym held ∙ c.records-records.ensures in
    let bound : AreBindersOf (held_in ss) Q ns = subst (λ l. AreBindersOf l Q ns) (sym kept) c.in_ok-givers.ensures in
    let end = givers_end ss distinct Q (λ r. MakesGoal r g) g.step (λ r m. m.0) ns bound c.place_of_goal_maker.result c.place_of_goal_maker.ensures in
    elim c.if-is_some.branch [
      | then-is_some+in_ok-push v ↦ rw v.givers-is (subst (λ l. AreNumbersOf l All v.push.new.self.items) kept
          (turned (held_in ss) v.push.new.self.items (end v.push.new.self.items (λ _. v.in_ok-push.ensures.items) (λ e. let clash : true ≡ false = sym v.if-is_some.true ∙ c.is_some.ensures ∙ e in cc))))
      | else-is_some v ↦ rw v.givers-is (subst (λ l. AreNumbersOf l All ns) kept
          (turned (held_in ss) ns (end ns (λ e. let clash : false ≡ true = sym v.if-is_some.false ∙ c.is_some.ensures ∙ e in cc) (λ _. refl))))
    ]
