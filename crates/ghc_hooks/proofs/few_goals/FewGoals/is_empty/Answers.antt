use Rattle.ghc_hooks.proofs.Words.{◌≡◌, ◌∙◌, ap, sym, subst, true, false, goal_cmp, goals_held, arith}
use Rattle.std.specs.FinSet as set
use Rattle.ghc_hooks.specs.inner.FewGoals.{HasEachOnce}
use Rattle.ghc_hooks.proofs.Few.{one_is_something}
use Rattle.ghc_hooks.proofs.few_goals.FewGoals.is_empty.Goals as goal

pub returns-in-One : goal.returns-in-One
returns-in-One c = grind (arith, one_is_something, goals_held)

pub returns-in-Two : goal.returns-in-Two
returns-in-Two c =
    let two = (subst HasEachOnce c.in-Two.is c.self.invariant).1 in
    let view = ap goals_held (sym c.in-Two.is) ∙ c.self.view_is in
    (λ t. let clash : false ≡ true = t in cc, λ e. absurd (let none = ap set.len (view ∙ e) ∙ set.len-empty goal_cmp in omega (arith, two, none)))
