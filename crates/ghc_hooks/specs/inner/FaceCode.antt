-- Two faces, or parts of one, with one code are one.
use Rattle.std.specs.Prelude.{◌≡◌, ◌⊎◌, Option, Some, None, refl}
use Rattle.std.proofs.Common.{inl, inr}
use Rattle.std.specs.Ordering.{nat_cmp}
use Rattle.std.specs.Coded.{Coded, code_by, coded×, coded⊎, coded_option, coded_ℕ}
use Rattle.std.specs.FinMap as finite
use Rattle.std.specs.FinSet as set
use Rattle.ghc_term.specs.Bindings.{name_cmp}
use Rattle.ghc_term.specs.inner.Code.{name_code}
use Rattle.ghc_term.specs.Sets.{Variables}
use Rattle.ghc_term.specs.Store.{StoreValue, store_code}
use Rattle.ghc_match.specs.Match.{Outcome, refuses, waits, accepts}
use Rattle.ghc_fire.specs.Goals.{goal_cmp, Goals}
use Rattle.ghc_fire.specs.inner.GoalsCode.{goal_name_code, goals_code}
use Rattle.ghc_hooks.specs.Status.{Status}
use Rattle.ghc_hooks.specs.Face.{Face, GoalNames, pair_cmp}
use Rattle.ghc_hooks.specs.inner.TriesCode.{variables_code, goal_names_code, status_code}

-- Statuses by goal.
abbrev pub StatusesByGoal : Type 0
StatusesByGoal = finite.FinMap goal_cmp Status

-- the code of statuses by goal: two such maps with one code are one
abbrev pub statuses_code : Coded StatusesByGoal
statuses_code = finite.code goal_name_code status_code

-- Pairs of a variable and a goal that waits for it.
abbrev pub HookPairs : Type 0
HookPairs = set.FinSet (pair_cmp name_cmp goal_cmp)

-- the code of hooks: two sets of hooks with one code are one
abbrev pub hooks_code : Coded HookPairs
hooks_code = set.code (coded× name_code goal_name_code)

-- what an outcome is made of: nothing, the variables, or the values and the variables that were read
abbrev pub OutcomeParts : Type 0
OutcomeParts = Option Variables ⊎ (StoreValue × Variables)

-- the parts of an outcome, which also say of what kind it is
abbrev pub outcome_parts : Outcome → OutcomeParts
outcome_parts refuses = inl None
outcome_parts (waits xs) = inl (Some xs)
outcome_parts (accepts m xs) = inr (m, xs)

-- the outcome that is made of these parts
abbrev pub outcome_from : OutcomeParts → Outcome
outcome_from (inl None) = refuses
outcome_from (inl (Some xs)) = waits xs
outcome_from (inr p) = accepts p.0 p.1

-- What an outcome is written as is read back as that outcome.
pub outcome_back : (o : Outcome) → outcome_from (outcome_parts o) ≡ o
outcome_back refuses = refl
outcome_back (waits xs) = refl
outcome_back (accepts m xs) = refl

-- the code of outcomes: two outcomes with one code are one
abbrev pub outcome_code : Coded Outcome
outcome_code = code_by OutcomeParts (coded⊎ (coded_option variables_code) (coded× store_code variables_code)) outcome_parts outcome_from outcome_back

-- Outcomes by goal and the clause's number.
abbrev pub OutcomesByClause : Type 0
OutcomesByClause = finite.FinMap (pair_cmp goal_cmp nat_cmp) Outcome

-- the code of outcomes by goal and clause: two such maps with one code are one
abbrev pub outcomes_code : Coded OutcomesByClause
outcomes_code = finite.code (coded× goal_name_code coded_ℕ) outcome_code

-- what a face is made of
abbrev pub FaceParts : Type 0
FaceParts = Goals × (StoreValue × (OutcomesByClause × (StatusesByGoal × (HookPairs × (GoalNames × (GoalNames × (GoalNames × GoalNames)))))))

-- the parts of a face, from its goals and store to its stream goals
abbrev pub face_parts : Face → FaceParts
face_parts f = (f.goals, (f.store, (f.outcomes, (f.statuses, (f.hooks, (f.ready, (f.waiting, (f.failed, f.streams))))))))

-- the face that is made of these parts
abbrev pub face_from : FaceParts → Face
face_from (goals, (store, (outcomes, (statuses, (hooks, (ready, (waiting, (failed, streams)))))))) =
    record { goals = goals; store = store; outcomes = outcomes; statuses = statuses; hooks = hooks; ready = ready; waiting = waiting; failed = failed; streams = streams }

-- the code of faces: two faces with one code are one
abbrev pub face_code : Coded Face
face_code =
    code_by FaceParts
    (coded× goals_code (coded× store_code (coded× outcomes_code (coded× statuses_code (coded× hooks_code (coded× goal_names_code (coded× goal_names_code (coded× goal_names_code goal_names_code))))))))
    face_parts face_from (λ _. refl)
