-- Histories as texts: how a history is written, which texts tell one, and which line of a text is the first that is wrong.
use Rattle.std.specs.Prelude.{◌≡◌, ◌≢◌, ℕ, ◌+◌, ◌<◌, ◌≤◌, ◌==◌, List, [], ◌∷◌, ◌++◌, codes, drop, length, map, Some, slice_get}
use Rattle.std.specs.Fmt.{decimal}
use Rattle.std.specs.List.{slice_split}
use Rattle.ghc_term.specs.declared.goal_name.GoalName.{GoalName}
use Rattle.ghc_term.specs.declared.fault.Fault.{Fault}
use Rattle.ghc_term.specs.Lists.{In}
use Rattle.ghc_reader.specs.Lexed.{greatest_number}
use Rattle.ghc_reader.specs.Read.{IsReadTerm}
use Rattle.ghc_fire.specs.declared.act.Act.{Act}
use Rattle.ghc_fire.specs.declared.act.Act.TheVariants.{ByClause as by_clause, Unified as unified, Assigned as assigned, Given as given, Closed as closed, Asked as asked}
use Rattle.ghc_records.specs.Orders.{AreDistinct}
use Rattle.ghc_records.specs.Numbers.{number_limit, kept_limit}
use Rattle.ghc_records.specs.Journal.{Step}
use Rattle.ghc_records.specs.StepText.{goal_name_text, step_text}
use Rattle.ghc_records.specs.History.{History}

-- the first line of each history
abbrev pub heading : List ℕ
heading = codes "ghc-history 1"

-- the line that tells how many steps there are
abbrev pub count_line : ℕ → List ℕ
count_line count = codes "steps " ++ decimal count

-- the line that tells the number that the next step gets
abbrev pub end_line : ℕ → List ℕ
end_line next = codes "end " ++ decimal next

-- lines, each of them ended by a line feed
abbrev pub lines_text : List (List ℕ) → List ℕ
lines_text [] = []
lines_text (line ∷ lines) = line ++ (codes "\n" ++ lines_text lines)

-- the lines of a history: the heading, how many steps it has, the steps in recorded order, and the number that the next step gets
abbrev pub history_lines : History → List (List ℕ)
history_lines h = heading ∷ count_line (length h.steps) ∷ (map step_text h.steps ++ end_line h.next ∷ [])

-- the text of a history
abbrev pub history_text : History → List ℕ
history_text h = lines_text (history_lines h)

-- the pieces into which line feeds cut a text; each of them is a line but the last, which no line feed ends
abbrev pub pieces_of : List ℕ → List (List ℕ)
pieces_of text = slice_split (λ byte. byte == 10) text

-- After the first i of these pieces comes this line, which another piece follows.
abbrev pub IsLineOf : List (List ℕ) → ℕ → List ℕ → Type 0
IsLineOf pieces i line = (next : List ℕ) × (more : List (List ℕ)) × (drop i pieces ≡ line ∷ next ∷ more)

-- After the first i lines of the text comes this one.
abbrev pub IsLine : List ℕ → ℕ → List ℕ → Type 0
IsLine text i line = IsLineOf (pieces_of text) i line

-- The bytes say the act. After `in ` stands any text of an input term. No act that asks for goals is said.
abbrev pub SaysAct : List ℕ → Act → Type 0
SaysAct bytes (by_clause k) = (bytes ≡ codes "by " ++ decimal k) × (1 ≤ k) × (k ≤ greatest_number)
SaysAct bytes unified = bytes ≡ codes "eq"
SaysAct bytes assigned = bytes ≡ codes "is"
SaysAct bytes (given u) = (text : List ℕ) × (bytes ≡ codes "in " ++ text) × IsReadTerm text u
SaysAct bytes closed = bytes ≡ codes "end"
SaysAct bytes (asked gs) = ⊥

-- The line says the step: its number, from 1 on, the goal that it consumed, and its act.
pub record SaysStep (line : List ℕ) (s : Step) : Type 0 where
  pub goal : GoalName
  pub act : List ℕ
  pub parts : line ≡ decimal s.number ++ (codes " " ++ (goal_name_text goal ++ (codes " " ++ act)))
  pub number : (1 ≤ s.number) × (s.number ≤ greatest_number)
  pub goal_numbers : (goal.step ≤ greatest_number) × (goal.place ≤ greatest_number)
  pub of_goal : s.goal ≡ Some goal
  pub says : SaysAct act s.act

-- The text tells that it has so many steps.
abbrev pub TellsCount : List ℕ → ℕ → Type 0
TellsCount text count = IsLine text 1 (count_line count) × (count ≤ kept_limit)

-- the pieces after heading and count
abbrev pub behind_count : List ℕ → List (List ℕ)
behind_count text = drop 2 (pieces_of text)

-- After so many of these pieces, whatever they are, comes the line that tells the number that the next step gets.
abbrev pub TellsNext : List (List ℕ) → ℕ → ℕ → Type 0
TellsNext pieces count next = IsLineOf pieces count (end_line next) × (1 ≤ next) × (next ≤ number_limit)

-- The first of these pieces are lines that say the steps. No two steps have one number, and each has one below the number that the line
-- after count pieces tells.
pub record TellsSteps (pieces : List (List ℕ)) (count : ℕ) (steps : List Step) : Type 0 where
  pub each : (i : ℕ) (s : Step) → slice_get steps i ≡ Some s → (line : List ℕ) × IsLineOf pieces i line × SaysStep line s
  pub distinct : AreDistinct (map (λ s. s.number) steps)
  pub below : (next : ℕ) (s : Step) → TellsNext pieces count next → In s steps → s.number < next

-- The pieces tell these steps, fewer than count, and no further one: the line after theirs is wrong.
abbrev pub TellsNoMore : List (List ℕ) → ℕ → List Step → Type 0
TellsNoMore pieces count steps = TellsSteps pieces count steps × (length steps < count) × ((s : Step) → ¬ TellsSteps pieces count (steps ++ s ∷ []))

-- The text tells the history, and nothing else.
pub record TellsHistory (text : List ℕ) (h : History) : Type 0 where
  pub begins : IsLine text 0 heading
  pub count : TellsCount text (length h.steps)
  pub steps : TellsSteps (behind_count text) (length h.steps) h.steps
  pub next : TellsNext (behind_count text) (length h.steps) h.next
  pub whole : drop (length h.steps + 3) (pieces_of text) ≡ [] ∷ []

-- The first wrong line of the text has this number, from 1 on. It is the heading; the count; a step; the end; or what follows the end. A
-- step's line is wrong where it tells none, or its number is that of a step in front or not below the next one.
pub data IsFirstWrongLine (text : List ℕ) : ℕ → Type 0 where
  no_heading : ¬ IsLine text 0 heading → IsFirstWrongLine text 1
  no_count : IsLine text 0 heading → ((count : ℕ) → ¬ TellsCount text count) → IsFirstWrongLine text 2
  no_step : {count : ℕ} {steps : List Step} → IsLine text 0 heading → TellsCount text count → TellsNoMore (behind_count text) count steps → IsFirstWrongLine text (length steps + 3)
  no_end : {count : ℕ} {steps : List Step} → IsLine text 0 heading → TellsCount text count → TellsSteps (behind_count text) count steps → length steps ≡ count
      → ((next : ℕ) → ¬ TellsNext (behind_count text) count next) → IsFirstWrongLine text (count + 3)
  more : {count next : ℕ} {steps : List Step} → IsLine text 0 heading → TellsCount text count → TellsSteps (behind_count text) count steps → length steps ≡ count
      → TellsNext (behind_count text) count next → drop (count + 3) (pieces_of text) ≢ [] ∷ [] → IsFirstWrongLine text (count + 4)

-- A text that tells no history is refused with its first wrong line.
abbrev pub IsHistoryRefusal : List ℕ → Fault → Type 0
IsHistoryRefusal text fault = (line : ℕ) × (fault ≡ Fault.History line) × IsFirstWrongLine text line
