use Rattle.ghc_console.proofs.CitedWords.{◌≡◌, ◌∙◌, sym, subst, IfOk}
use Rattle.ghc_console.proofs.Answering.{place_read, place_said, term_alone, term_read, term_said}
use Rattle.ghc_console.proofs.blame_words.value_command.Goals as goal

pub returns-in_default-clause-command : goal.returns-in_default-clause-command
returns-in_default-clause-command c =
    subst (λ k. IfOk c.term_command.result (λ command. command ≡ k)) (sym (term_alone c.args.first.now _ c.in_default.ensures.none)) c.term_command.ensures.command

pub returns-in_default-clause-memory : goal.returns-in_default-clause-memory
returns-in_default-clause-memory c = term_read c.term_command.result c.args.first.now _ c.requires (term_alone c.args.first.now _ c.in_default.ensures.none) c.term_command.ensures.memory

pub returns-then-is_variable_word-clause-command : goal.returns-then-is_variable_word-clause-command
returns-then-is_variable_word-clause-command c =
    subst (λ k. IfOk c.place_command.result (λ command. command ≡ k))
    (sym (place_said c.args.first.now c.in-Some.second.now _ _ c.in-Some.ensures.found (sym c.is_variable_word.ensures ∙ c.if-is_variable_word.true))) c.place_command.ensures.command

pub returns-then-is_variable_word-clause-memory : goal.returns-then-is_variable_word-clause-memory
returns-then-is_variable_word-clause-memory c =
    place_read c.place_command.result c.args.first.now c.in-Some.second.now _ _ c.requires (sym c.is_variable_word.ensures ∙ c.if-is_variable_word.true) c.in-Some.ensures.found c.place_command.ensures.memory

pub returns-clause-command : goal.returns-clause-command
returns-clause-command c =
    subst (λ k. IfOk c.term_command-2.result (λ command. command ≡ k))
    (sym (term_said c.args.first.now c.in-Some.second.now _ _ c.in-Some.ensures.found (sym c.is_variable_word.ensures ∙ c.if-is_variable_word.false))) c.term_command-2.ensures.command

pub returns-clause-memory : goal.returns-clause-memory
returns-clause-memory c =
    term_read c.term_command-2.result c.args.first.now _ c.requires
    (term_said c.args.first.now c.in-Some.second.now _ _ c.in-Some.ensures.found (sym c.is_variable_word.ensures ∙ c.if-is_variable_word.false)) c.term_command-2.ensures.memory
