-- Laws of histories as texts.
use Rattle.std.specs.Prelude.{◌≡◌, ◌≢◌, ◌+◌, ◌≤◌, ◌==◌, ℕ, List, [], ◌++◌, Some, Result}
use Rattle.std.specs.List.{count_by}
use Rattle.ghc_term.specs.declared.goal_name.GoalName.{GoalName}
use Rattle.ghc_term.specs.declared.fault.Fault.{Fault}
use Rattle.ghc_term.specs.Answered.{Answered, IsExact}
use Rattle.ghc_term.specs.Lists.{In}
use Rattle.ghc_term.specs.Tree.{Tree}
use Rattle.ghc_term.specs.Goal.{Goal}
use Rattle.ghc_term.specs.InputTerm.{IsInputTerm}
use Rattle.ghc_fire.specs.declared.act.Act.TheVariants.{ByClause as by_clause, Given as given, Asked as asked}
use Rattle.ghc_records.specs.Journal.{Step}
use Rattle.ghc_records.specs.History.{History, IsHistory}
use Rattle.ghc_records.specs.HistoryText.{IsFirstWrongLine, IsHistoryRefusal, TellsHistory, history_text}
use Rattle.ghc_reader.specs.Lexed.{greatest_number}

-- The goal and the clause that the step names have numbers of 32 bits, and its input is an input term.
pub record IsInRange (s : Step) : Type 0 where
  pub goal : (g : GoalName) → s.goal ≡ Some g → (g.step ≤ greatest_number) × (g.place ≤ greatest_number)
  pub clause : (k : ℕ) → s.act ≡ by_clause k → k ≤ greatest_number
  pub input : (u : Tree) → s.act ≡ given u → IsInputTerm u

-- The step consumes a goal, and asks for none; it has a number of 32 bits, from 1 on, as the clause that it names; and it is in range.
pub record IsOfAGoal (s : Step) : Type 0 where
  pub number : (1 ≤ s.number) × (s.number ≤ greatest_number)
  pub goal : (g : GoalName) × (s.goal ≡ Some g)
  pub unasked : (gs : List Goal) → s.act ≢ asked gs
  pub clause : (k : ℕ) → s.act ≡ by_clause k → 1 ≤ k
  pub range : IsInRange s

-- What is written of a history tells it. A history that a text tells is of the form, and its own text tells it.
pub record WrittenHistoriesAreReadAgain : Type 0 where
  pub written : (h : History) → IsHistory h → ((s : Step) → In s h.steps → IsInRange s) → TellsHistory (history_text h) h
  pub only : (text : List ℕ) (h : History) → TellsHistory text h → IsHistory h
  pub again : (text : List ℕ) (h : History) → TellsHistory text h → TellsHistory (history_text h) h

-- how many line feeds there are
abbrev pub line_feeds : List ℕ → ℕ
line_feeds bytes = count_by (λ byte. byte == 10) bytes

-- A text that is cut off anywhere tells no history: its first wrong line is the one after its last line feed.
abbrev pub CutTextsAreRefused : Type 0
CutTextsAreRefused =
    (text front back : List ℕ) (h : History) → TellsHistory text h → text ≡ front ++ back → back ≢ [] → IsFirstWrongLine front (line_feeds front + 1)

-- What is answered for a text is exact: the history that it tells, or its first wrong line, unless memory was refused.
abbrev pub ReadHistoryIsExact : Type 0
ReadHistoryIsExact =
    (text : List ℕ) (result : Result History Fault)
    → Answered (TellsHistory text) (IsHistoryRefusal text) result → IsExact (TellsHistory text) (IsHistoryRefusal text) result
