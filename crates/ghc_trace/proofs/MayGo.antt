-- From the goals that may take a step to the variables asked about, and back.
use Rattle.ghc_trace.proofs.Words.{VarName, GoalName, World, value_at}
use Rattle.ghc_trace.specs.declared.holding.Holder.{Holder}
use Rattle.ghc_trace.specs.Holding.{IsReaching, IsUnboundIn}
use Rattle.ghc_trace.specs.WhyNot.{IsAskedAbout, asked_first, awaited_there, IsAwaitedBy, MayBeBound}
use Rattle.ghc_trace.specs.WhyNotLaws.{MayBeBoundWhereReached, MayEverGoOn, now, once_bound, WhatMayBeBoundIsReached}

module _ (w : World) (First : VarName → Type 0) where
  -- a goal that may ever go on reaches a variable asked about first
  abbrev IsReachedFirst : Type 0
  IsReachedFirst = (h : Holder) × First h.variable × IsReaching w.state h × MayEverGoOn w h.goal

  to_first : {y : VarName} → IsAskedAbout w First y → (g : GoalName) → IsReaching w.state (record { variable = y; goal = g }) → MayEverGoOn w g → IsReachedFirst
  to_first {y = y} (asked_first f) g there may = (record { variable = y; goal = g }, f, there, may)
  to_first {y = y} (awaited_there k asked holds hooked) g there may = to_first asked k holds (once_bound (record { variable = y; goal = g }) may there hooked)

  from_first : {g : GoalName} → MayEverGoOn w g → (y : VarName) → IsAskedAbout w First y → IsReaching w.state (record { variable = y; goal = g }) → MayBeBound w First
  from_first {g = g} (now may) y asked there = (record { variable = y; goal = g }, asked, there, may)
  from_first {g = g} (once_bound h may holds hooked) y asked there = from_first may h.variable (awaited_there g asked there hooked) holds

  from_either : MayBeBoundWhereReached w First
  from_either = (λ m. to_first m.1 m.0.goal m.2 (now m.3), λ q. from_first q.3 q.0.variable (asked_first q.1) q.2)

pub bound_from_either : WhatMayBeBoundIsReached
bound_from_either w = record { of_variable = λ x. from_either w (IsUnboundIn (value_at w.state.store) x); of_goal = λ g. from_either w (IsAwaitedBy w g) }
