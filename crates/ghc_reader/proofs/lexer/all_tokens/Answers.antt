use Rattle.ghc_reader.proofs.OneLexing.{places_of_tokens}
use Rattle.ghc_reader.proofs.lexer.all_tokens.Goals as goal

pub returns-clause-paired : goal.returns-clause-paired
returns-clause-paired c = places_of_tokens c.args.reserved c.args.text.now c.cut.result c.cut.ensures.found
