-- How `blame` asks which call is wrong, and tells which step is at fault.
use Rattle.std.specs.Prelude.{◌≡◌, ◌⊎◌, ℕ, List, None, Some}
use Rattle.std.specs.FinMap as finite
use Rattle.ghc_term.specs.declared.var_name.VarName.{VarName}
use Rattle.ghc_term.specs.declared.goal_name.GoalName.{GoalName}
use Rattle.ghc_term.specs.declared.fault.Fault.{Fault}
use Rattle.ghc_term.specs.declared.limit.Limit.TheVariants as limit
use Rattle.ghc_term.specs.Goal.{Goal}
use Rattle.ghc_core.specs.World.{World}
use Rattle.ghc_trace.specs.declared.judgements.Answer.{Answer}
use Rattle.ghc_trace.specs.declared.judgements.Subject.{Subject}
use Rattle.ghc_trace.specs.declared.judgements.Subject.TheVariants as subject
use Rattle.ghc_trace.specs.BlameLines.{HasAnswerBeside, HasTooLongBlame, IsNoPlace, TellsBlameOf}
use Rattle.ghc_console.specs.TextLines.{refusal}
use Rattle.ghc_console.specs.VariableNamed.{IsVariableNamed}

-- RepliesOn w s told text: the text tells the next question about the subject, by these answers, or the verdict. Or it is the refusal, where the place is not in the term, an answer is about no call of the slice, or a text would be too long.
pub data RepliesOn (w : World) (s : Subject) (told : List Answer) : List ℕ → Type 0 where
  blames : {text : List ℕ} → TellsBlameOf w s told text → RepliesOn w s told text
  no_place : IsNoPlace w s → RepliesOn w s told (refusal Fault.NoVariable)
  beside : HasAnswerBeside w s told → RepliesOn w s told (refusal Fault.NoGoal)
  too_long_to_blame : HasTooLongBlame w s told → RepliesOn w s told (refusal (Fault.Limit limit.Print))

-- RepliesToBlame w word told text: the reply on the value of the variable that the word names, or the refusal where it names none.
pub data RepliesToBlame (w : World) (word : List ℕ) (told : List Answer) : List ℕ → Type 0 where
  blames_value : {text : List ℕ} (x : VarName) → IsVariableNamed w word x → RepliesOn w (subject.Value x) told text → RepliesToBlame w word told text
  blames_nothing : ((x : VarName) → ¬ IsVariableNamed w word x) → RepliesToBlame w word told (refusal Fault.NoVariable)

-- RepliesToBlamePlace w word place told text: the reply on the place of the second variable in the value of the first, or the refusal where one of the words names none.
pub data RepliesToBlamePlace (w : World) (word place : List ℕ) (told : List Answer) : List ℕ → Type 0 where
  blames_place : {text : List ℕ} (x y : VarName) → IsVariableNamed w word x → IsVariableNamed w place y → RepliesOn w (subject.Place x y) told text → RepliesToBlamePlace w word place told text
  blames_no_place : ((x : VarName) → ¬ IsVariableNamed w word x) ⊎ ((x : VarName) → ¬ IsVariableNamed w place x) → RepliesToBlamePlace w word place told (refusal Fault.NoVariable)

-- RepliesToBlameGoal w g told text: the reply on the goal of this name, or the refusal where there is none.
pub data RepliesToBlameGoal (w : World) (g : GoalName) (told : List Answer) : List ℕ → Type 0 where
  blames_goal : {text : List ℕ} (b : Goal) → finite.get w.state.goals g ≡ Some b → RepliesOn w (subject.Goal g) told text → RepliesToBlameGoal w g told text
  blames_no_goal : finite.get w.state.goals g ≡ None → RepliesToBlameGoal w g told (refusal Fault.NoGoal)
