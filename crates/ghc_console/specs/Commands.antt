-- The command that a line says.
use Rattle.std.specs.Prelude.{ℕ, ◌==◌, Option, None, Some, if◌then◌else◌, List, [], ◌∷◌, codes}
use Rattle.std.specs.List.{list_all}
use Rattle.std.specs.Str.{bytes_eq}
use Rattle.ghc_term.specs.declared.goal_name.GoalName.{GoalName}
use Rattle.ghc_core.specs.declared.command.Command.TheVariants.{Undo, Redo, Roll, Arrange, Close}
use Rattle.ghc_console.specs.Words.{behind, goal_name_of, is_printable, is_variable, number_of, numbers_of, words_of}
use Rattle.ghc_console.specs.BlameWords.{blame_of}
use Rattle.ghc_console.specs.PredicateWords.{predicate_of}
use Rattle.ghc_console.specs.declared.command.LineCommand.{LineCommand}
use Rattle.ghc_console.specs.declared.command.LineCommand.TheVariants.{Nothing, Step, Obey, Show, Records, Since, Causes, GoalOf, Clauses, Goals, Why, Effects, Who, Explain, ExplainGoal, WhyNot, WhyNotGoal, Part, Keep, KeepGoal, Shelf, Save, SaveSteps, Spy, Unspy, Input, Ask, Leap, Skip, Quit, Unknown}

-- A step with the goal, by the least clause that accepts, where the word named one.
abbrev pub step_with : Option GoalName → LineCommand
step_with (Some goal) = Step goal None
step_with None = Unknown

-- A step with the goal by the clause of this number, where the words said both.
abbrev pub step_by : Option GoalName → Option ℕ → LineCommand
step_by (Some goal) (Some clause) = Step goal (Some clause)
step_by (Some goal) None = Unknown
step_by None clause = Unknown

-- The most steps of a run, where a line says no number.
abbrev pub run_limit : ℕ
run_limit = 1000000

-- A run of at most so many steps, which are one or more.
abbrev pub leap_of : ℕ → LineCommand
leap_of limit = if limit == 0 then Unknown else Leap limit

-- A run of the goals that descend from the goal, where the word named one.
abbrev pub skip_with : Option GoalName → LineCommand
skip_with (Some goal) = Skip goal
skip_with None = Unknown

-- What the clauses say to the goal, where the word named one.
abbrev pub clauses_with : Option GoalName → LineCommand
clauses_with (Some goal) = Clauses goal
clauses_with None = Unknown

-- The command of a word alone: `records`, `goals`, `shelf`, `save`, `leap`, `quit` or `causes`.
abbrev pub command_of_one_word : List ℕ → LineCommand
command_of_one_word name = if bytes_eq name (codes "records") then Records
    else (if bytes_eq name (codes "goals") then Goals
    else (if bytes_eq name (codes "shelf") then Shelf
    else (if bytes_eq name (codes "save") then Save
    else (if bytes_eq name (codes "leap") then Leap run_limit
    else (if bytes_eq name (codes "quit") then Quit
    else (if bytes_eq name (codes "causes") then Causes else Unknown))))))

-- The command of a word with a number: `undo N`, `redo N`, `roll N`, `why N`, `end K`, `leap K`, `since N`, `goal N` or `effects N`.
abbrev pub command_with_number : List ℕ → ℕ → LineCommand
command_with_number name number = if bytes_eq name (codes "undo") then Obey (Undo number)
    else (if bytes_eq name (codes "redo") then Obey (Redo number)
    else (if bytes_eq name (codes "roll") then Obey (Roll number)
    else (if bytes_eq name (codes "why") then Why number
    else (if bytes_eq name (codes "end") then Obey (Close number)
    else (if bytes_eq name (codes "leap") then leap_of number
    else (if bytes_eq name (codes "since") then Since number
    else (if bytes_eq name (codes "goal") then GoalOf number
    else (if bytes_eq name (codes "effects") then Effects number else Unknown))))))))

-- The same, where the next word said a number.
abbrev pub numbered : List ℕ → Option ℕ → LineCommand
numbered name (Some number) = command_with_number name number
numbered name None = Unknown

-- The command of a word with a variable: `show X`, `who X`, `explain X`, `whynot X` or `keep X`.
abbrev pub command_with_variable : List ℕ → List ℕ → LineCommand
command_with_variable name word = if bytes_eq name (codes "show") then Show word
    else (if bytes_eq name (codes "who") then Who word
    else (if bytes_eq name (codes "explain") then Explain word
    else (if bytes_eq name (codes "whynot") then WhyNot word
    else (if bytes_eq name (codes "keep") then Keep word else Unknown))))

-- The command of a word with a goal: `explain G`, `whynot G`, `part G` or `keep G`.
abbrev pub command_with_goal : List ℕ → GoalName → LineCommand
command_with_goal name goal = if bytes_eq name (codes "explain") then ExplainGoal goal
    else (if bytes_eq name (codes "whynot") then WhyNotGoal goal
    else (if bytes_eq name (codes "part") then Part goal
    else (if bytes_eq name (codes "keep") then KeepGoal goal else Unknown)))

-- The same, where the next word named a goal; or the command of a number, where it said one.
abbrev pub named : List ℕ → Option GoalName → Option ℕ → LineCommand
named name (Some goal) number = command_with_goal name goal
named name None number = numbered name number

-- The spying of the predicate, where the word named one.
abbrev pub spy_with : Option (List ℕ × ℕ) → LineCommand
spy_with (Some named) = Spy named.0 named.1
spy_with None = Unknown

-- The spying of the predicate no more, where the word named one.
abbrev pub unspy_with : Option (List ℕ × ℕ) → LineCommand
unspy_with (Some named) = Unspy named.0 named.1
unspy_with None = Unknown

-- The saving of the version that the word says: `1` says the first, the history of the steps that are kept.
abbrev pub save_of : List ℕ → LineCommand
save_of word = if bytes_eq word (codes "1") then SaveSteps else Unknown

-- The command of a word and one more: `step G`, `skip G` or `clauses G`, `save 1`, one with a predicate, or one with a variable, a goal or a number.
abbrev pub command_of_two_words : List ℕ → List ℕ → LineCommand
command_of_two_words name word = if bytes_eq name (codes "step") then step_with (goal_name_of word)
    else (if bytes_eq name (codes "skip") then skip_with (goal_name_of word)
    else (if bytes_eq name (codes "clauses") then clauses_with (goal_name_of word)
    else (if bytes_eq name (codes "spy") then spy_with (predicate_of word)
    else (if bytes_eq name (codes "nospy") then unspy_with (predicate_of word)
    else (if bytes_eq name (codes "save") then save_of word
    else (if is_variable word then command_with_variable name word else named name (goal_name_of word) (number_of word)))))))

-- The command of a word and two more: `step G C`.
abbrev pub command_of_three_words : List ℕ → List ℕ → List ℕ → LineCommand
command_of_three_words name goal number = if bytes_eq name (codes "step") then step_by (goal_name_of goal) (number_of number) else Unknown

-- The command of a word and those after it, by how many these are.
abbrev pub command_by_count : List ℕ → List (List ℕ) → LineCommand
command_by_count name [] = command_of_one_word name
command_by_count name (word ∷ []) = command_of_two_words name word
command_by_count name (first ∷ second ∷ []) = command_of_three_words name first second
command_by_count name (first ∷ second ∷ third ∷ rest) = Unknown

-- The arranging of the record in the order of these numbers, where the words said them.
abbrev pub arrange_with : Option (List ℕ) → LineCommand
arrange_with (Some order) = Obey (Arrange order)
arrange_with None = Unknown

-- An input of the text to the stream of this number, where the word said one, and there is a text.
abbrev pub input_with : Option ℕ → List ℕ → LineCommand
input_with (Some stream) (byte ∷ bytes) = Input stream (byte ∷ bytes)
input_with (Some stream) [] = Unknown
input_with None text = Unknown

-- An input of the text to the stream that the first of the words says.
abbrev pub input_to : List (List ℕ) → List ℕ → LineCommand
input_to [] text = Unknown
input_to (stream ∷ words) text = input_with (number_of stream) text

-- The asking for what the text says, where there is a text.
abbrev pub ask_with : List ℕ → LineCommand
ask_with (byte ∷ bytes) = Ask (byte ∷ bytes)
ask_with [] = Unknown

-- The command of the words of a line. `arrange` and `blame` take any number of words after them; `in K T` a number, and all that stands after the first two words; and `ask T` all that stands after the first.
abbrev pub command_of_words : List (List ℕ) → List ℕ → LineCommand
command_of_words [] line = Nothing
command_of_words (name ∷ words) line = if bytes_eq name (codes "arrange") then arrange_with (numbers_of words)
    else (if bytes_eq name (codes "in") then input_to words (behind 2 line)
    else (if bytes_eq name (codes "blame") then blame_of words
    else (if bytes_eq name (codes "ask") then ask_with (behind 1 line) else command_by_count name words)))

-- The command that a line says. With a byte that is not printable it says none that is known.
abbrev pub command_of : List ℕ → LineCommand
command_of line = if list_all is_printable line then command_of_words (words_of line) line else Unknown
