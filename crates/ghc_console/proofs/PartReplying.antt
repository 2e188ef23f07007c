-- What a reply says of a call, of what it was given, and of what it gave.
use Rattle.std.specs.Prelude.{IfNone, IfSome, IsSome}
use Rattle.ghc_console.proofs.CitedWords.{◌≡◌, ◌≢◌, ◌⊎◌, inl, inr, refl, ap, ◌∙◌, ℕ, List, Option, Some, None, option_copied, Fault, Goal, GoalName, Record, World, refusal}
use Rattle.std.specs.Borrow.{Bor}
use Rattle.std.specs.FinMap as finite
use Rattle.ghc_term.specs.declared.fault.Fault.TheVariants as fault
use Rattle.ghc_term.specs.declared.limit.Limit.TheVariants as limit
use Rattle.ghc_term.specs.Lists.{In}
use Rattle.ghc_trace.specs.PartLines.{HasTooLongText}
use Rattle.ghc_console.specs.PartReplies.{IsNamedSo, TellsCallOrTooLong}

-- a goal that a kept step took, or that is there, has its name
pub named_so : (w : World) (g : GoalName) (b : Goal) (taker : Option (Bor Record)) → IfSome taker (λ r. In r.now w.kept × (r.now.goal ≡ Some g) × (r.now.consumed ≡ Some b))
    → IfNone taker (finite.get w.state.goals g ≡ Some b) → IsNamedSo w g b
named_so w g b None taken there = inl there
named_so w g b (Some r) (kept, is, took) there = inr (r.now, kept, is, took)

-- a goal that is lent is there
pub goal_lent : (o : Option (Bor Goal)) (b : Goal) → option_copied o ≡ Some b → IsSome o
goal_lent None b e = cc
goal_lent (Some a) b e = refl

-- A refusal of a call says that a text is too long.
pub call_refused : (w : World) (g : GoalName) (b : Goal) (f : Fault) (text : List ℕ) → (f ≡ fault.Memory) ⊎ (f ≡ fault.Limit limit.Print) → (f ≡ fault.Limit limit.Print → HasTooLongText w g b)
    → text ≡ refusal f → f ≢ fault.Memory → TellsCallOrTooLong w g b text
call_refused w g b f text (inl m) past told kept = absurd (kept m)
call_refused w g b f text (inr q) past told kept = inr (past q, told ∙ ap refusal q)
