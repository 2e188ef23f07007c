use Rattle.ghc_reader.proofs.Values.{no_number_fits}
use Rattle.ghc_reader.proofs.lexer.value.number.Goals as goal

pub returns-in-Err : goal.returns-in-Err
returns-in-Err c = no_number_fits c.ascii_text.result.now c.args.digits.now c.in-Err.field-0 c.ascii_text.ensures c.requires c.in-Err.ensures.value.0
