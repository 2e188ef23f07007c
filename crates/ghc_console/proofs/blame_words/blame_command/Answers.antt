use Rattle.ghc_console.proofs.CitedWords.{◌≡◌, ◌∙◌, sym, subst, IfOk}
use Rattle.ghc_console.proofs.Answering.{goal_read, variable_read, variable_said}
use Rattle.ghc_console.proofs.blame_words.blame_command.Goals as goal

pub returns-then-is_variable_word-clause-command : goal.returns-then-is_variable_word-clause-command
returns-then-is_variable_word-clause-command c =
    subst (λ k. IfOk c.value_command.result (λ command. command ≡ k))
    (sym (variable_said c.in-Some.first.now _ _ c.in-Some.ensures.found (sym c.is_variable_word.ensures ∙ c.if-is_variable_word.true))) c.value_command.ensures.command

pub returns-then-is_variable_word-clause-memory : goal.returns-then-is_variable_word-clause-memory
returns-then-is_variable_word-clause-memory c =
    variable_read c.value_command.result c.in-Some.first.now _ _ c.in-Some.ensures.found (sym c.is_variable_word.ensures ∙ c.if-is_variable_word.true) c.value_command.ensures.memory

pub returns-in_err-answers-clause-memory : goal.returns-in_err-answers-clause-memory
returns-in_err-answers-clause-memory c =
    goal_read c.from_residual.result c.in-Some.first.now c.in-Some-goal_name.goal _ _ c.in-Some.ensures.found c.in-Some-goal_name.ensures c.in_err-answers.ensures.memory
