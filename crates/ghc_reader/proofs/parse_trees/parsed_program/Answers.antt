use Rattle.ghc_reader.proofs.Words.{err_from_is_err_and, a_program}
use Rattle.ghc_reader.proofs.OneReading.{token_refusal}
use Rattle.ghc_reader.proofs.parse_trees.parsed_program.Goals as goal

pub returns-in_err-lexed-clause-fault : goal.returns-in_err-lexed-clause-fault
returns-in_err-lexed-clause-fault c =
    let passed = err_from_is_err_and c.from_residual.result c.from_residual.ensures.1 in
    rw (passed.1, passed.2) (token_refusal a_program c.args.text.now _ c.in_err-lexed.ensures.fault)
