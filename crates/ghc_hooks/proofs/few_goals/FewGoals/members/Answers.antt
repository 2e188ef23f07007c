use Rattle.ghc_hooks.proofs.Words.{◌∙◌, ap, sym, subst, goal_cmp, goals_held}
use Rattle.std.specs.FinSet as set
use Rattle.ghc_hooks.specs.inner.FewGoals.{HasEachOnce}
use Rattle.ghc_hooks.proofs.Few.{one_counted}
use Rattle.ghc_hooks.proofs.few_goals.FewGoals.members.Goals as goal

pub returns-in-Nothing-clause-once : goal.returns-in-Nothing-clause-once
returns-in-Nothing-clause-once c = sym (set.len-empty goal_cmp) ∙ ap set.len (ap goals_held (sym c.in-Nothing.is) ∙ c.self.view_is)

pub returns-in-One-clause-once : goal.returns-in-One-clause-once
returns-in-One-clause-once c = c.from_ref.ensures.len ∙ one_counted c.in-One.goal ∙ ap set.len (ap goals_held (sym c.in-One.is) ∙ c.self.view_is)

pub returns-in-Two-clause-once : goal.returns-in-Two-clause-once
returns-in-Two-clause-once c =
    let each = subst HasEachOnce c.in-Two.is c.self.invariant in
    each.0 ∙ sym each.1 ∙ ap set.len (ap goals_held (sym c.in-Two.is) ∙ c.self.view_is)
