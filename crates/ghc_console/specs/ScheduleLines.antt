-- What a line of a schedule says.
use Rattle.std.specs.Prelude.{ℕ, Option, None, Some, if◌then◌else◌, List, [], ◌∷◌, codes}
use Rattle.std.specs.List.{list_all}
use Rattle.std.specs.Str.{bytes_eq}
use Rattle.ghc_term.specs.declared.goal_name.GoalName.{GoalName}
use Rattle.ghc_core.specs.declared.event.Event.TheVariants as event
use Rattle.ghc_console.specs.Words.{goal_name_of, is_printable, number_of, words_of}
use Rattle.ghc_console.specs.declared.schedules.line.ScheduleLine.{ScheduleLine}
use Rattle.ghc_console.specs.declared.schedules.line.ScheduleLine.TheVariants.{Nothing, Event, AsConsole, Unknown}

-- The hand asks for a step of the goal, with a clause chosen or not, where the words named hand and goal.
abbrev pub propose_with : Option ℕ → Option GoalName → Option ℕ → ScheduleLine
propose_with (Some hand) (Some goal) choice = Event (event.Propose hand goal choice)
propose_with (Some hand) None choice = Unknown
propose_with None goal choice = Unknown

-- The same with the clause of this number, where the word said one.
abbrev pub propose_by : Option ℕ → Option GoalName → Option ℕ → ScheduleLine
propose_by hand goal (Some clause) = propose_with hand goal (Some clause)
propose_by hand goal None = Unknown

-- `W G` or `W G C` after `propose`: a hand, a goal and, where it is chosen, a clause.
abbrev pub propose_of : List (List ℕ) → ScheduleLine
propose_of (hand ∷ goal ∷ []) = propose_with (number_of hand) (goal_name_of goal) None
propose_of (hand ∷ goal ∷ clause ∷ []) = propose_by (number_of hand) (goal_name_of goal) (number_of clause)
propose_of [] = Unknown
propose_of (hand ∷ []) = Unknown
propose_of (hand ∷ goal ∷ clause ∷ more ∷ rest) = Unknown

-- The hand commits what it holds, where the word said its number.
abbrev pub commit_with : Option ℕ → ScheduleLine
commit_with (Some hand) = Event (event.Commit hand)
commit_with None = Unknown

-- `W` after `commit`.
abbrev pub commit_of : List (List ℕ) → ScheduleLine
commit_of (hand ∷ []) = commit_with (number_of hand)
commit_of [] = Unknown
commit_of (hand ∷ more ∷ rest) = Unknown

-- The goal is tried, where the word named one.
abbrev pub note_with : Option GoalName → ScheduleLine
note_with (Some goal) = Event (event.Note goal)
note_with None = Unknown

-- `G` after `note`.
abbrev pub note_of : List (List ℕ) → ScheduleLine
note_of (goal ∷ []) = note_with (goal_name_of goal)
note_of [] = Unknown
note_of (goal ∷ more ∷ rest) = Unknown

-- What the words say: an event of a hand, by `propose W G`, `propose W G C` or `commit W`; the trial of a goal, by `note G`; else what they say at the console.
abbrev pub schedule_line_of_words : List (List ℕ) → ScheduleLine
schedule_line_of_words [] = Nothing
schedule_line_of_words (name ∷ words) = if bytes_eq name (codes "propose") then propose_of words
    else (if bytes_eq name (codes "commit") then commit_of words
    else (if bytes_eq name (codes "note") then note_of words else AsConsole))

-- What a line of a schedule says. With a byte that is not printable it says nothing that is known.
abbrev pub schedule_line_of : List ℕ → ScheduleLine
schedule_line_of line = if list_all is_printable line then schedule_line_of_words (words_of line) else Unknown
