use Rattle.ghc_reader.proofs.EveryText.{every_text_is_read}
use Rattle.ghc_reader.proofs.lexer.laws.every_text_is_read.Goals as goal

pub returns : goal.returns
returns c = every_text_is_read
