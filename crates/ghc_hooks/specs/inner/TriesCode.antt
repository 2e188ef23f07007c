-- Two statuses, notes or tries with one code are one.
use Rattle.std.specs.Prelude.{◌≡◌, ◌⊎◌, ℕ, refl}
use Rattle.std.proofs.Common.{inl, inr}
use Rattle.std.specs.Coded.{Coded, code_by, coded×, coded⊎, coded_bool, coded_ℕ}
use Rattle.std.specs.FinMap as finite
use Rattle.std.specs.FinSet as set
use Rattle.std.specs.Prelude.{Bool, true, false}
use Rattle.ghc_term.specs.inner.Code.{name_code}
use Rattle.ghc_term.specs.Bindings.{name_cmp}
use Rattle.ghc_term.specs.declared.goal_name.GoalName.{GoalName}
use Rattle.ghc_term.specs.Sets.{Variables}
use Rattle.ghc_term.specs.declared.fault.Fault.{Fault}
use Rattle.ghc_fire.specs.inner.GoalsCode.{goal_name_code}
use Rattle.ghc_hooks.specs.Status.{Status, ready, waiting, failed, streaming}
use Rattle.ghc_hooks.specs.Face.{GoalNames}
use Rattle.ghc_hooks.specs.Notes.{Note, NotesByGoal}
use Rattle.ghc_hooks.specs.Tries.{Tries}
use Rattle.ghc_hooks.specs.inner.Looks.{GoalsByVariable}
use Rattle.ghc_hooks.specs.inner.FaultCode.{fault_code}

-- the code of sets of variables: two sets with one code are one
abbrev pub variables_code : Coded Variables
variables_code = set.code name_code

-- the code of sets of goal names: two sets with one code are one
abbrev pub goal_names_code : Coded GoalNames
goal_names_code = set.code goal_name_code

-- what a status is made of: its variables, its refusal, or whether it is ready
abbrev pub StatusParts : Type 0
StatusParts = Bool ⊎ (Variables ⊎ Fault)

-- the parts of a status, which also say of what kind it is
abbrev pub status_parts : Status → StatusParts
status_parts ready = inl true
status_parts (waiting xs) = inr (inl xs)
status_parts (failed f) = inr (inr f)
status_parts streaming = inl false

-- the status that is made of these parts
abbrev pub status_from : StatusParts → Status
status_from (inl true) = ready
status_from (inl false) = streaming
status_from (inr (inl xs)) = waiting xs
status_from (inr (inr f)) = failed f

-- What a status is written as is read back as that status.
pub status_back : (s : Status) → status_from (status_parts s) ≡ s
status_back ready = refl
status_back (waiting xs) = refl
status_back (failed f) = refl
status_back streaming = refl

-- the code of statuses: two statuses with one code are one
abbrev pub status_code : Coded Status
status_code = code_by StatusParts (coded⊎ coded_bool (coded⊎ variables_code fault_code)) status_parts status_from status_back

-- the code of notes: two notes with one code are one
abbrev pub note_code : Coded Note
note_code = code_by (Status × Variables) (coded× status_code variables_code) (λ n. (n.status, n.looked)) (λ p. record { status = p.0; looked = p.1 }) (λ _. refl)

-- the code of notes by goal: two such maps with one code are one
abbrev pub notes_code : Coded NotesByGoal
notes_code = finite.code goal_name_code note_code

-- the code of goals by variable: two such tables with one code are one
abbrev pub goals_by_variable_code : Coded GoalsByVariable
goals_by_variable_code =
    code_by (finite.FinMap name_cmp GoalNames × finite.FinMap name_cmp GoalName) (coded× (finite.code name_code goal_names_code) (finite.code name_code goal_name_code))
    (λ m. (m.several, m.single)) (λ p. record { several = p.0; single = p.1 }) (λ _. refl)

-- the code of tries: two tries with one code are one
abbrev pub tries_code : Coded Tries
tries_code =
    code_by (NotesByGoal × (GoalNames × ℕ)) (coded× notes_code (coded× goal_names_code coded_ℕ)) (λ t. (t.notes, (t.untried, t.room)))
    (λ p. record { notes = p.0; untried = p.1.0; room = p.1.1 }) (λ _. refl)
