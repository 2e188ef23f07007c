use Rattle.ghc_reader.proofs.InputFaults.{closed_none, closed_more}
use Rattle.std.proofs.Common.{arith}
use Rattle.ghc_reader.proofs.input_parser.closed_front.Goals as goal

pub loop-token-init : goal.loop-token-init
loop-token-init c = closed_none c.args.tokens.now

pub loop-token-preserved : goal.loop-token-preserved
loop-token-preserved c = closed_more c.args.tokens.now c.loop-token.rest.now c.in-Some.after.now c.in-Some.token.now c.loop-token.invariant c.in-Some.ensures (grind (arith, c.in_default-token.not-Variable))
