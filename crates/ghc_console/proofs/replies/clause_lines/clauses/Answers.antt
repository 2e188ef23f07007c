use Rattle.ghc_console.proofs.CitedWords.{None, Some, subst, subst₂, string_bytes, value_at}
use Rattle.ghc_console.specs.Looks.{TellsClauses, TellsClausesFor}
use Rattle.ghc_console.proofs.LookReplies.{clauses_told}
use Rattle.ghc_console.proofs.StepReplies.{if_ok, on_ok}
use Rattle.ghc_console.proofs.replies.clause_lines.clauses.Goals as goal

pub returns-in_default : goal.returns-in_default
returns-in_default c = if_ok c.refused.result c.refused.ensures.text c.refused.ensures.memory (λ _ told kept.
    clauses_told c.args.lines.now c.args.core.now.world c.args.goal c.goals.result.now.held None (string_bytes c.refused.new.reply) c.goals.ensures c.in_default.ensures told)

pub returns-in-Call : goal.returns-in-Call
returns-in-Call c = on_ok c.clause_lines.result c.clause_lines.ensures (λ told.
    let w = c.args.core.now.world in
    let text = string_bytes c.clause_lines.new.reply in
    let here = subst₂ (λ P s. TellsClauses c.args.lines.now P c.in-Call.name.now c.in-Call.arguments.now (value_at s) text) c.program.ensures c.store.ensures told in
    clauses_told c.args.lines.now w c.args.goal c.goals.result.now.held (Some c.in-Some.found.now) text c.goals.ensures c.in-Some.ensures (subst (λ b. TellsClausesFor c.args.lines.now w (Some b) text) c.in-Call.ensures here))

pub returns-in-Unify : goal.returns-in-Unify
returns-in-Unify c = if_ok c.refused-in-Unify.result c.refused-in-Unify.ensures.text c.refused-in-Unify.ensures.memory (λ _ told kept.
    let w = c.args.core.now.world in
    let text = string_bytes c.refused-in-Unify.new.reply in
    clauses_told c.args.lines.now w c.args.goal c.goals.result.now.held (Some c.in-Some.found.now) text c.goals.ensures c.in-Some.ensures (subst (λ b. TellsClausesFor c.args.lines.now w (Some b) text) c.in-Unify.ensures told))

pub returns-in-Assign : goal.returns-in-Assign
returns-in-Assign c = if_ok c.refused-in-Assign.result c.refused-in-Assign.ensures.text c.refused-in-Assign.ensures.memory (λ _ told kept.
    let w = c.args.core.now.world in
    let text = string_bytes c.refused-in-Assign.new.reply in
    clauses_told c.args.lines.now w c.args.goal c.goals.result.now.held (Some c.in-Some.found.now) text c.goals.ensures c.in-Some.ensures (subst (λ b. TellsClausesFor c.args.lines.now w (Some b) text) c.in-Assign.ensures told))

pub returns-in-Stream : goal.returns-in-Stream
returns-in-Stream c = if_ok c.refused-in-Stream.result c.refused-in-Stream.ensures.text c.refused-in-Stream.ensures.memory (λ _ told kept.
    let w = c.args.core.now.world in
    let text = string_bytes c.refused-in-Stream.new.reply in
    clauses_told c.args.lines.now w c.args.goal c.goals.result.now.held (Some c.in-Some.found.now) text c.goals.ensures c.in-Some.ensures (subst (λ b. TellsClausesFor c.args.lines.now w (Some b) text) c.in-Stream.ensures told))
