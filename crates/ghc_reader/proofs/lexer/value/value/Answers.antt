use Rattle.ghc_reader.proofs.Values.{no_value}
use Rattle.ghc_reader.proofs.lexer.value.value.Goals as goal

pub returns-in-Err : goal.returns-in-Err
returns-in-Err c = no_value c.ascii_text.result.now c.args.bytes.now c.ascii_text.ensures c.requires c.in-Err.ensures.value.0
