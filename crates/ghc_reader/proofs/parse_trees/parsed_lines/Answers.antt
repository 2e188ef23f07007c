use Rattle.ghc_reader.proofs.Words.{clause_views, err_from_is_err_and, a_program}
use Rattle.ghc_reader.proofs.HeadLines.{are_lines, heads_among}
use Rattle.ghc_reader.proofs.OneReading.{token_refusal}
use Rattle.ghc_reader.proofs.parse_trees.parsed_lines.Goals as goal

pub returns-in_err-lexed-clause-fault : goal.returns-in_err-lexed-clause-fault
returns-in_err-lexed-clause-fault c =
    let passed = err_from_is_err_and c.from_residual.result c.from_residual.ensures.1 in
    rw (passed.1, passed.2) (token_refusal a_program c.args.text.now _ c.in_err-lexed.ensures.fault)

pub lines_of-requires-clause-among : goal.lines_of-requires-clause-among
lines_of-requires-clause-among c =
    let text = c.args.text.now in
    let lexed = c.in_ok-lexed in
    rw c.deref.ensures.value (heads_among text lexed.lexed.tokens.items lexed.lexed.places.items lexed.ensures.found (clause_views c.in_ok-clauses.clauses.items) (c.in_ok-clauses.ensures.found text lexed.ensures.found))

pub returns-clause-found : goal.returns-clause-found
returns-clause-found c =
    let text = c.args.text.now in
    let lexed = c.in_ok-lexed in
    are_lines text lexed.lexed.tokens.items lexed.lexed.places.items lexed.ensures.found (clause_views c.in_ok-clauses.clauses.items) (c.in_ok-clauses.ensures.found text lexed.ensures.found) c.in_ok-lines_of.field-0
    (rw c.deref.ensures.value at c.in_ok-lines_of.ensures)
