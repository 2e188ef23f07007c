use Rattle.ghc_core.proofs.Words.{◌≡◌, sym, ap, ◌∙◌, subst, Some, value_at, Core}
use Rattle.std.specs.FinMap as finite
use Rattle.ghc_term.specs.Goal.{Goal, call}
use Rattle.ghc_match.specs.Looked.{GoalLooksAt}
use Rattle.ghc_core.specs.inner.CutOut.{IsCutOut}
use Rattle.ghc_core.proofs.Excerpts.{cut_tells}
use Rattle.ghc_core.proofs.Worth.{no_more_than_few}
use Rattle.ghc_core.proofs.core_state.Core.excerpt.Goals as goal

pub invariant_of-result : goal.invariant_of-result
invariant_of-result c =
    let w = c.args.self.now.world in
    let P = c.in_ok-try_clone.field-0.value in
    let M = value_at c.in-Some-2.store.held in
    let f = c.in-Call.predicate.now in
    let ts = c.in-Call.arguments.now in
    let b = c.in_ok-share.field-0 in
    let is : b ≡ call f ts = c.in_ok-share.ensures ∙ sym c.goal.ensures ∙ sym c.in-Call.ensures in
    let goals = c.goals.ensures ∙ ap (λ (x : Core). x.world.state.goals) c.self.view_is in
    let store = c.store.ensures ∙ ap (λ (x : Core). x.world.state.store) c.self.view_is in
    let cut = subst (λ m. IsCutOut (value_at m) M ts) store (rw c.in-Some-2.is at c.in_ok-store.ensures) in
    rw c.of.ensures (record {
      standing = c.stands.ensures.standing;
      program = c.in_ok-try_clone.ensures ∙ ap (λ (x : Core). x.world.opening.program) c.self.view_is;
      there = ap (λ m. finite.get m c.args.name) (sym goals) ∙ sym c.in-Some.ensures ∙ ap Some (sym c.in_ok-share.ensures);
      called = (f, ts, is);
      tells = λ x l. cut_tells P (value_at w.state.store) M f ts cut x (subst (λ (g : Goal). GoalLooksAt P M g x) is l);
    })

pub returns-then-clauses_for-le-FEW_CLAUSES : goal.returns-then-clauses_for-le-FEW_CLAUSES
returns-then-clauses_for-le-FEW_CLAUSES c =
    let w = c.args.self.now.world in
    let f = c.in-Call.predicate.now in
    let ts = c.in-Call.arguments.now in
    let goals = c.goals.ensures ∙ ap (λ (x : Core). x.world.state.goals) c.self.view_is in
    let there = ap (λ m. finite.get m c.args.name) (sym goals) ∙ sym c.in-Some.ensures ∙ ap Some (sym (c.in-Call.ensures ∙ c.goal.ensures)) in
    no_more_than_few w c.args.name f ts there c.clauses_for.result.now (rw c.program.ensures at c.clauses_for.ensures) c.if-clauses_for-le-FEW_CLAUSES.true
