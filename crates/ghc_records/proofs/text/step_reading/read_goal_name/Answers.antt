use Rattle.ghc_records.proofs.Words.{◌≡◌, ◌≢◌, ◌≤◌, ◌∷◌, ◌++◌, All, ℕ, List, Option, Some, None, IfNone, decimal, GoalName, goal_name_text, greatest_number}
use Rattle.ghc_records.proofs.Saying.{goal_apart, no_goal}
use Rattle.ghc_records.proofs.text.step_reading.read_goal_name.Goals as goal

no_place : (word a b : List ℕ) (r : Option GoalName) → word ≡ a ++ 46 ∷ b → All (λ c. c ≢ 46) a → IfNone r ((n : ℕ) → n ≤ greatest_number → b ≢ decimal n)
    → IfNone r ((g : GoalName) → g.step ≤ greatest_number → g.place ≤ greatest_number → word ≢ goal_name_text g)
no_place word a b (Some g) cut plain none = tt
no_place word a b None cut plain none = λ g step place e. none g.place place (goal_apart word a b g cut plain step e).1

pub returns-in_default-clause-none : goal.returns-in_default-clause-none
returns-in_default-clause-none c = no_goal c.args.word.now c.in_default.ensures.none

pub returns-in-Some-number-clause-none : goal.returns-in-Some-number-clause-none
returns-in-Some-number-clause-none c =
    no_place c.args.word.now c.in-Some.step.now c.in-Some.place.now c.goal_at.result c.in-Some.ensures.found c.in-Some.ensures.plain c.goal_at.ensures.none

pub returns-in-None-clause-none : goal.returns-in-None-clause-none
returns-in-None-clause-none c = λ g step place e.
    c.in-None.ensures.none g.step step (goal_apart c.args.word.now c.in-Some.step.now c.in-Some.place.now g c.in-Some.ensures.found c.in-Some.ensures.plain step e).0
