-- The words after `blame`: what seems wrong, and what was told right or wrong.
use Rattle.std.specs.Prelude.{ℕ, ◌==◌, List, [], ◌∷◌, Option, None, Some, if◌then◌else◌}
use Rattle.ghc_term.specs.declared.goal_name.GoalName.{GoalName}
use Rattle.ghc_trace.specs.declared.judgements.Judgement.{Judgement}
use Rattle.ghc_trace.specs.declared.judgements.Judgement.TheVariants.{Right, Wrong}
use Rattle.ghc_trace.specs.declared.judgements.Answer.{Answer}
use Rattle.ghc_console.specs.Words.{goal_name_of, in_front, is_variable}
use Rattle.ghc_console.specs.declared.command.LineCommand.{LineCommand}
use Rattle.ghc_console.specs.declared.command.LineCommand.TheVariants.{Blame, BlamePlace, BlameGoal, Unknown}

-- The judgement that a byte says: `+` (43) that a goal is right, and `-` (45) that it is wrong.
abbrev pub judgement_of : ℕ → Option Judgement
judgement_of byte = if byte == 43 then Some Right else (if byte == 45 then Some Wrong else None)

-- The answer of a judgement about a goal, where both are there.
abbrev pub answer_with : Option Judgement → Option GoalName → Option Answer
answer_with (Some judgement) (Some goal) = Some (record { goal = goal; judgement = judgement })
answer_with (Some judgement) None = None
answer_with None goal = None

-- The answer that a word says: `+` or `-`, and the name of a goal.
abbrev pub answer_of : List ℕ → Option Answer
answer_of [] = None
answer_of (byte ∷ bytes) = answer_with (judgement_of byte) (goal_name_of bytes)

-- The answers that the words say, in their order, where each of them says one.
abbrev pub answers_of : List (List ℕ) → Option (List Answer)
answers_of [] = Some []
answers_of (word ∷ words) = in_front (answer_of word) (answers_of words)

-- The command about the term of the variable, where the words said answers.
abbrev pub blame_term : List ℕ → Option (List Answer) → LineCommand
blame_term word (Some answers) = Blame word answers
blame_term word None = Unknown

-- The command about the place of the second variable in the term of the first, where the words said answers.
abbrev pub blame_place : List ℕ → List ℕ → Option (List Answer) → LineCommand
blame_place word place (Some answers) = BlamePlace word place answers
blame_place word place None = Unknown

-- The command about the goal, where the words said one, and answers.
abbrev pub blame_goal : Option GoalName → Option (List Answer) → LineCommand
blame_goal (Some goal) (Some answers) = BlameGoal goal answers
blame_goal (Some goal) None = Unknown
blame_goal None answers = Unknown

-- The command about a variable, or about a place in its term, where another variable comes next.
abbrev pub blame_of_variable : List ℕ → List (List ℕ) → LineCommand
blame_of_variable word [] = blame_term word (Some [])
blame_of_variable word (next ∷ words) = if is_variable next then blame_place word next (answers_of words) else blame_term word (answers_of (next ∷ words))

-- The command of the words after `blame`: a variable, two, or a goal, and then answers.
abbrev pub blame_of : List (List ℕ) → LineCommand
blame_of [] = Unknown
blame_of (word ∷ words) = if is_variable word then blame_of_variable word words else blame_goal (goal_name_of word) (answers_of words)
