use Rattle.std.specs.Prelude.{IfNone, IfSome}
use Rattle.ghc_trace.proofs.Words.{◌≡◌, Option, Some, None, Bor, GoalName, In, List, ℕ, Record}
use Rattle.ghc_trace.proofs.parts.taker_by_users.Goals as goal

pub returns-in_err-users-clause-none : goal.returns-in_err-users-clause-none
returns-in_err-users-clause-none c = rw c.from_residual.ensures (λ r d i e. c.in_err-users.ensures.none)

took_it : (o : Option (Bor Record)) (kept : List Record) (ns : List ℕ) (g : GoalName) → IfSome o (λ r. In r.now kept × In r.now.number ns × (r.now.goal ≡ Some g)) → IfSome o (λ r. In r.now kept × (r.now.goal ≡ Some g))
took_it None kept ns g h = tt
took_it (Some r) kept ns g h = (h.0, h.2)

pub returns-clause-found : goal.returns-clause-found
returns-clause-found c = took_it c.taker_among.result c.args.records.now.held c.in_ok-users.users.now c.args.goal c.taker_among.ensures.found

if_none : (o : Option (Bor Record)) {A B : Type 0} → IfNone o A → (A → B) → IfNone o B
if_none None h f = f h
if_none (Some r) h f = tt

pub returns-clause-none : goal.returns-clause-none
returns-clause-none c = if_none c.taker_among.result c.taker_among.ensures.none (λ none r d i e. absurd (none r i ((c.in_ok-users.ensures.users r.number).1 d) e))
