use Rattle.ghc_reader.proofs.Values.{tests_numbers}
use Rattle.ghc_reader.proofs.lexer.value.is_too_great.Goals as goal

pub returns-then-is_reserved : goal.returns-then-is_reserved
returns-then-is_reserved c = tests_numbers c.args.bytes.now c.numbers.result c.is_none.result c.is_none.ensures (c.is_reserved.ensures.0 c.if-is_reserved.true) c.numbers.ensures
