-- Whether a goal is spied.
use Rattle.ghc_pool.proofs.Words.{◌≡◌, ◌∙◌, Bool, true, false, length, sym, subst, Some, None, ◌↔◌, IsTrue, GoalName, Goal, call, unify, assign, stream, same_value, World, Spies, IsSpied, predicate, predicate_cmp, IsSpiedIn}
use Rattle.std.specs.FinMap as finite
use Rattle.std.specs.FinSet as set
use Rattle.ghc_depend.proofs.Finding.{not_both as some_or_none}

-- no goal is a call of a predicate of no set
unspied : (b : Goal) → ¬ IsSpied set.empty b
unspied (call f ts) there = let clash : false ≡ true = sym (set.contains-empty predicate_cmp (predicate f (length ts))) ∙ there in cc
unspied (unify l r) there = there
unspied (assign t e) there = there
unspied (stream k x) there = there

module _ (spies : Spies) (w : World) (g : GoalName) where
  -- whether a goal that is there is spied
  pub spied_there : (t : Bool) (b : Goal) → finite.get w.state.goals g ≡ Some b → (IsTrue t ↔ IsSpied spies b) → IsTrue t ↔ IsSpiedIn spies w g
  spied_there t b e h = (λ yes. (b, e, h.0 yes), λ s. h.1 (subst (IsSpied spies) (same_value s.1 e) s.2))

  pub none_spied : finite.get w.state.goals g ≡ None → ¬ IsSpiedIn spies w g
  none_spied none s = some_or_none s.1 none

  pub nothing_spied : spies ≡ set.empty → ¬ IsSpiedIn spies w g
  nothing_spied none s = unspied s.0 (subst (λ z. IsSpied z s.0) none s.2)
