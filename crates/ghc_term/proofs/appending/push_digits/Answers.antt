use Rattle.ghc_term.proofs.Words.{arith, length-decimal-le}
use Rattle.ghc_term.proofs.appending.push_digits.Goals as goal

pub push_by_way_of-requires : goal.push_by_way_of-requires
push_by_way_of-requires c = length-decimal-le 4 c.args.number (omega arith) (omega (arith, c.if-number-ge10000.false)) (omega (arith, c.ranges.number.fits))

pub push_by_way_of-requires-then-number-ge100 : goal.push_by_way_of-requires-then-number-ge100
push_by_way_of-requires-then-number-ge100 c = length-decimal-le 3 c.args.number (omega arith) (omega (arith, c.if-number-ge1000.false)) (omega (arith, c.ranges.number.fits))

pub push_by_way_of-requires-2 : goal.push_by_way_of-requires-2
push_by_way_of-requires-2 c = length-decimal-le 2 c.args.number (omega arith) (omega (arith, c.if-number-ge100.false)) (omega (arith, c.ranges.number.fits))
