use Rattle.std.proofs.Common.{arith}
use Rattle.ghc_reader.proofs.Cutting.{short_faults}
use Rattle.ghc_reader.proofs.OneLexing.{only_lexing, only_bad_byte, places_of_tokens}
use Rattle.ghc_reader.proofs.lexer.tokens.Goals as goal

pub returns-clause-fault : goal.returns-clause-fault
returns-clause-fault c = short_faults c.args.reserved c.args.text.now c.cut.result (omega arith) c.cut.ensures.fault

pub returns-clause-only : goal.returns-clause-only
returns-clause-only c = only_lexing c.args.reserved c.args.text.now c.cut.result c.cut.ensures.found (short_faults c.args.reserved c.args.text.now c.cut.result (omega arith) c.cut.ensures.fault)

pub returns-clause-only_bad : goal.returns-clause-only_bad
returns-clause-only_bad c = only_bad_byte c.args.reserved c.args.text.now c.cut.result c.cut.ensures.found (short_faults c.args.reserved c.args.text.now c.cut.result (omega arith) c.cut.ensures.fault)

pub returns-clause-paired : goal.returns-clause-paired
returns-clause-paired c = places_of_tokens c.args.reserved c.args.text.now c.cut.result c.cut.ensures.found
