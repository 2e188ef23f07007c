use Rattle.ghc_hooks.proofs.Words.{◌≡◌, sym, ap, subst, ◌∙◌, goal_cmp, looks, HasLookedAt}
use Rattle.std.specs.FinSet as set
use Rattle.ghc_hooks.proofs.Looking.{goal_in_set, set_in_goals}
use Rattle.ghc_hooks.proofs.tries.Tries.looking_at.Goals as goal

pub returns-clause-each : goal.returns-clause-each
returns-clause-each c g =
    let there : looks c.self.inside.looks c.args.x g ≡ set.contains (set.from_list {R = goal_cmp} c.at.result.now) g = ap (λ s. set.contains s g) (sym c.at.ensures.all) in (
      λ i. subst (λ t. HasLookedAt t.notes c.args.x g) c.self.view_is ((c.self.invariant.0.follows c.args.x g).0 (there ∙ goal_in_set g c.at.result.now i)),
      λ l. set_in_goals g c.at.result.now (sym there ∙ (c.self.invariant.0.follows c.args.x g).1 (subst (λ t. HasLookedAt t.notes c.args.x g) (sym c.self.view_is) l)),
    )

pub returns-clause-once : goal.returns-clause-once
returns-clause-once c = c.at.ensures.once ∙ ap set.len (sym c.at.ensures.all)
