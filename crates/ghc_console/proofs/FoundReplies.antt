-- Replies that are refused, since they are about nothing or too long.
use Rattle.ghc_console.proofs.CitedWords.{◌≡◌, ◌≢◌, ◌⊎◌, ◌<◌, inl, inr, length, subst, sym, Some, ℕ, List, Fault, IsTextOf, IsVariableNamed, RepliesToShow, VarName, World, no_variable, print_limit, refusal, too_long, value_at, variable}
use Rattle.std.specs.FinMap as finite
use Rattle.ghc_term.specs.Goal.{Goal}
use Rattle.ghc_term.specs.declared.fault.Fault.TheVariants as fault
use Rattle.ghc_term.specs.declared.goal_name.GoalName.{GoalName}
use Rattle.ghc_term.specs.declared.limit.Limit.TheVariants as limit
use Rattle.ghc_trace.specs.GoalLines.{IsTooLong}
use Rattle.ghc_console.specs.Explaining.{RepliesToExplain, RepliesToExplainGoal, explains_no_goal, explains_nothing, goal_is_too_long, too_long_to_explain}
use Rattle.ghc_console.specs.WhyNot.{RepliesToWhyNot, RepliesToWhyNotGoal, asks_of_no_goal, asks_of_nothing, too_long_to_ask, waiting_goal_is_too_long}
use Rattle.ghc_console.specs.inner.Found.{IsGoalRefusal, IsValueRefusal, is_a_long_one, is_not_there, names_a_long_one, names_none}

-- A refusal of a term says that it is too long.
pub long_value : (w : World) (word : List ℕ) (x : VarName) (f : Fault) → IsVariableNamed w word x → (f ≡ fault.Memory) ⊎ (f ≡ fault.Limit limit.Print)
    → (f ≡ fault.Limit limit.Print → (long : List ℕ) × (IsTextOf (value_at w.state.store) (variable x) long × (print_limit < length long))) → (f ≡ fault.Memory) ⊎ IsValueRefusal w word f
long_value w word x f named (inl m) past = inl m
long_value w word x f named (inr q) past =
    let long = past q in
    inr (subst (IsValueRefusal w word) (sym q) (names_a_long_one x long.0 named long.1.0 long.1.1))

-- The same of a goal.
pub long_goal : (w : World) (g : GoalName) (b : Goal) (f : Fault) → finite.get w.state.goals g ≡ Some b → (f ≡ fault.Memory) ⊎ (f ≡ fault.Limit limit.Print) → (f ≡ fault.Limit limit.Print → IsTooLong w.state.store b)
    → (f ≡ fault.Memory) ⊎ IsGoalRefusal w g f
long_goal w g b f there (inl m) past = inl m
long_goal w g b f there (inr q) past = inr (subst (IsGoalRefusal w g) (sym q) (is_a_long_one b there (past q)))

-- A reply that tells a refusal is right where each refusal but that of memory is.
of_refusal : (f : Fault) (text : List ℕ) (Refuses : Fault → Type 0) (Replies : List ℕ → Type 0) → ((h : Fault) → Refuses h → Replies (refusal h)) → (f ≡ fault.Memory) ⊎ Refuses f → text ≡ refusal f → f ≢ fault.Memory → Replies text
of_refusal f text Refuses Replies each (inl m) told kept = absurd (kept m)
of_refusal f text Refuses Replies each (inr why) told kept = subst Replies (sym told) (each f why)

pub shown_refused : (w : World) (word : List ℕ) (f : Fault) (text : List ℕ) → (f ≡ fault.Memory) ⊎ IsValueRefusal w word f → text ≡ refusal f → f ≢ fault.Memory → RepliesToShow w word text
shown_refused w word f text = of_refusal f text (IsValueRefusal w word) (RepliesToShow w word) each
  where
    each : (h : Fault) → IsValueRefusal w word h → RepliesToShow w word (refusal h)
    each h (names_none none) = no_variable none
    each h (names_a_long_one x term named is long) = too_long x term named is long

pub explained_refused : (w : World) (word : List ℕ) (f : Fault) (text : List ℕ) → (f ≡ fault.Memory) ⊎ IsValueRefusal w word f → text ≡ refusal f → f ≢ fault.Memory → RepliesToExplain w word text
explained_refused w word f text = of_refusal f text (IsValueRefusal w word) (RepliesToExplain w word) each
  where
    each : (h : Fault) → IsValueRefusal w word h → RepliesToExplain w word (refusal h)
    each h (names_none none) = explains_nothing none
    each h (names_a_long_one x term named is long) = too_long_to_explain x term named is long

pub asked_refused : (w : World) (word : List ℕ) (f : Fault) (text : List ℕ) → (f ≡ fault.Memory) ⊎ IsValueRefusal w word f → text ≡ refusal f → f ≢ fault.Memory → RepliesToWhyNot w word text
asked_refused w word f text = of_refusal f text (IsValueRefusal w word) (RepliesToWhyNot w word) each
  where
    each : (h : Fault) → IsValueRefusal w word h → RepliesToWhyNot w word (refusal h)
    each h (names_none none) = asks_of_nothing none
    each h (names_a_long_one x term named is long) = too_long_to_ask x term named is long

pub explained_goal_refused : (w : World) (g : GoalName) (f : Fault) (text : List ℕ) → (f ≡ fault.Memory) ⊎ IsGoalRefusal w g f → text ≡ refusal f → f ≢ fault.Memory → RepliesToExplainGoal w g text
explained_goal_refused w g f text = of_refusal f text (IsGoalRefusal w g) (RepliesToExplainGoal w g) each
  where
    each : (h : Fault) → IsGoalRefusal w g h → RepliesToExplainGoal w g (refusal h)
    each h (is_not_there none) = explains_no_goal none
    each h (is_a_long_one b there long) = goal_is_too_long b there long

pub asked_goal_refused : (w : World) (g : GoalName) (f : Fault) (text : List ℕ) → (f ≡ fault.Memory) ⊎ IsGoalRefusal w g f → text ≡ refusal f → f ≢ fault.Memory → RepliesToWhyNotGoal w g text
asked_goal_refused w g f text = of_refusal f text (IsGoalRefusal w g) (RepliesToWhyNotGoal w g) each
  where
    each : (h : Fault) → IsGoalRefusal w g h → RepliesToWhyNotGoal w g (refusal h)
    each h (is_not_there none) = asks_of_no_goal none
    each h (is_a_long_one b there long) = waiting_goal_is_too_long b there long
