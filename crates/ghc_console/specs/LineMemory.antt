-- What reading a line takes memory for.
use Rattle.std.specs.Prelude.{◌≡◌, ℕ, true, Some, List, [], ◌∷◌, codes}
use Rattle.std.specs.List.{list_all}
use Rattle.ghc_term.specs.declared.goal_name.GoalName.{GoalName}
use Rattle.ghc_trace.specs.declared.judgements.Answer.{Answer}
use Rattle.ghc_console.specs.Words.{goal_name_of, is_printable, is_variable, number_of, words_of}
use Rattle.ghc_console.specs.BlameWords.{answer_of}
use Rattle.ghc_console.specs.Commands.{command_of}
use Rattle.ghc_console.specs.declared.command.LineCommand.{LineCommand}
use Rattle.ghc_console.specs.declared.command.LineCommand.TheVariants.{Show, Who, Explain, WhyNot, Blame, BlamePlace, Keep, Spy, Unspy, Input, Ask}

-- The command keeps a text of its line: the word of a variable, the name of a predicate, or what is given or asked for.
abbrev pub KeepsText : LineCommand → Type 0
KeepsText (Show word) = Unit {0}
KeepsText (Who word) = Unit {0}
KeepsText (Explain word) = Unit {0}
KeepsText (WhyNot word) = Unit {0}
KeepsText (Blame word answers) = Unit {0}
KeepsText (BlamePlace word place answers) = Unit {0}
KeepsText (Keep word) = Unit {0}
KeepsText (Spy name arity) = Unit {0}
KeepsText (Unspy name arity) = Unit {0}
KeepsText (Input stream given) = Unit {0}
KeepsText (Ask given) = Unit {0}
KeepsText command = ⊥

-- There is a first word, and it says a number.
abbrev pub BeginsWithNumber : List (List ℕ) → Type 0
BeginsWithNumber [] = ⊥
BeginsWithNumber (word ∷ words) = (n : ℕ) × (number_of word ≡ Some n)

-- There is a first word, and it says an answer.
abbrev pub BeginsWithAnswer : List (List ℕ) → Type 0
BeginsWithAnswer [] = ⊥
BeginsWithAnswer (word ∷ words) = (answer : Answer) × (answer_of word ≡ Some answer)

-- Reading the words after `blame` takes memory for answers, from the first of them on: after a variable, two variables, or a goal.
pub data BlameTakesMemory : List (List ℕ) → Type 0 where
  after_a_variable : {word : List ℕ} {words : List (List ℕ)} → is_variable word ≡ true → BeginsWithAnswer words → BlameTakesMemory (word ∷ words)
  after_a_place : {word place : List ℕ} {words : List (List ℕ)} → is_variable word ≡ true → is_variable place ≡ true → BeginsWithAnswer words → BlameTakesMemory (word ∷ place ∷ words)
  after_a_goal : {word : List ℕ} {goal : GoalName} {words : List (List ℕ)} → goal_name_of word ≡ Some goal → BeginsWithAnswer words → BlameTakesMemory (word ∷ words)

-- Reading the line takes memory: for the numbers after `arrange`, or the answers after `blame`, from the first of them on, or for a text that its command keeps.
pub data TakesMemory (line : List ℕ) : Type 0 where
  for_numbers : {words : List (List ℕ)} → list_all is_printable line ≡ true → words_of line ≡ codes "arrange" ∷ words → BeginsWithNumber words → TakesMemory line
  for_answers : {words : List (List ℕ)} → list_all is_printable line ≡ true → words_of line ≡ codes "blame" ∷ words → BlameTakesMemory words → TakesMemory line
  for_a_text : KeepsText (command_of line) → TakesMemory line
