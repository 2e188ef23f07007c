-- Who had a variable has it, has passed it on, or lost it.
use Rattle.ghc_trace.proofs.Words.{inl, inr, Decided, some_decided, VarName, Goal, value_at, StoreValue, IsAcyclic, reached_good}
use Rattle.std.specs.FinMap as finite
use Rattle.ghc_unify.proofs.Reached.{reaches_decided}
use Rattle.ghc_term.specs.Bindings.{Reaches}
use Rattle.ghc_trace.specs.Holding.{GoalReaches, goal_terms}
use Rattle.ghc_trace.specs.WhyNotLaws.{WhoHadItHasItOrLostIt}
use Rattle.std.proofs.Common.{arith}

-- it is decided whether a goal reaches a variable
goal_decided : (s : StoreValue) → IsAcyclic (value_at s) → (b : Goal) (y : VarName) → Decided (GoalReaches (value_at s) b y)
goal_decided s acyclic b y = some_decided (goal_terms b) (λ t. Reaches (value_at s) t y) (λ t i. reaches_decided (finite.len s) s (omega arith) acyclic y t)

pub passed_or_lost : WhoHadItHasItOrLostIt
passed_or_lost w r k b y reached kept by consumed had =
    elim (some_decided r.effect.makes (λ c. GoalReaches (value_at w.state.store) c y) (λ c i. goal_decided w.state.store (reached_good reached).acyclic c y)) [
      | inl c ↦ inr (c.0, c.1, c.2)
      | inr none ↦ inl (record { kept = kept; by_some_clause = (k, by); had = (b, consumed, had); gave_on = λ c i r. none (c, i, r) })
    ]
