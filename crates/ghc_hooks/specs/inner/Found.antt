-- What was found when goals and clauses were tried.
use Rattle.std.specs.Prelude.{ℕ, Option, Some, None, List, map}
use Rattle.std.specs.FinMap as finite
use Rattle.ghc_term.specs.declared.goal_name.GoalName.{GoalName}
use Rattle.ghc_match.specs.declared.trying.Tried.{Tried}
use Rattle.ghc_match.specs.inner.Told.{outcome_of}
use Rattle.ghc_hooks.specs.Status.{Status, streaming}
use Rattle.ghc_hooks.specs.Notes.{Note}
use Rattle.ghc_hooks.specs.inner.FaceCode.{OutcomesByClause}

-- the status of the note, or of a stream goal where there is none
abbrev pub status_found : Option Note → Status
status_found None = streaming
status_found (Some note) = note.status

-- the outcomes of what was tried, by goal and the clause's number
abbrev pub outcomes_found : List ((GoalName × ℕ) × Tried) → OutcomesByClause
outcomes_found es = finite.from_entries (map (λ e. (e.0, outcome_of e.1)) es)
