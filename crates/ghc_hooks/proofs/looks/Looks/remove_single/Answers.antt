use Rattle.ghc_hooks.proofs.Words.{◌≡◌, ◌∙◌, ap, sym, Some, eq_by_cmp, not_both, goal_cmp, same_is, same_goal}
use Rattle.std.specs.FinMap as finite
use Rattle.ghc_fire.proofs.GoalNames.{same}
use Rattle.ghc_hooks.proofs.Looking.{goal_itself}
use Rattle.ghc_hooks.proofs.Under.{take_single, other_stays, none_stays}
use Rattle.ghc_hooks.proofs.looks.Looks.remove_single.Goals as goal

pub returns-in_default : goal.returns-in_default
returns-in_default c = none_stays c.args.self.now c.args.x c.args.goal c.requires (sym (c.in_default.ensures ∙ ap (λ m. finite.get m.single c.args.x) c.self.view_is))

pub returns-then-eq : goal.returns-then-eq
returns-then-eq c =
    let f = c.in-Some.single.now in
    let p : f ≡ c.args.goal = same_goal f c.args.goal (sym (same_is f c.args.goal) ∙ sym c.eq.ensures ∙ c.if-eq.true) in
    take_single (finite.from_entries c.self.inside.several.entries) c.self.inside.single.held c.args.x c.args.self.now c.self.view_is c.args.goal c.requires c.remove.new.self.held
    (sym (c.in-Some.ensures ∙ ap (λ m. finite.get m.single c.args.x) c.self.view_is) ∙ ap Some p) c.remove.ensures.held

pub returns-else-eq : goal.returns-else-eq
returns-else-eq c =
    let f = c.in-Some.single.now in
    other_stays c.args.self.now c.args.x c.args.goal c.requires f
    (λ p. not_both (same f c.args.goal) (sym c.eq.ensures ∙ c.if-eq.false) (same_is f c.args.goal ∙ ap (λ z. eq_by_cmp goal_cmp z c.args.goal) p ∙ goal_itself c.args.goal))
    (sym (c.in-Some.ensures ∙ ap (λ m. finite.get m.single c.args.x) c.self.view_is))
