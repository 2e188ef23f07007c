use Rattle.ghc_reader.proofs.EveryText.{no_text_is_read_twice}
use Rattle.ghc_reader.proofs.lexer.laws.no_text_is_read_twice.Goals as goal

pub returns : goal.returns
returns c = no_text_is_read_twice
