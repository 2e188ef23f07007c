use Rattle.ghc_term.proofs.Words.{arith, length-decimal-le}
use Rattle.ghc_term.proofs.appending.push_many_digits.Goals as goal

pub push_by_way_of-requires : goal.push_by_way_of-requires
push_by_way_of-requires c = length-decimal-le 6 c.args.number (omega arith) (omega (arith, c.if-number-ge1000000.false)) (omega (arith, c.ranges.number.fits))

pub push_by_way_of-requires-then-number-ge10000 : goal.push_by_way_of-requires-then-number-ge10000
push_by_way_of-requires-then-number-ge10000 c = length-decimal-le 5 c.args.number (omega arith) (omega (arith, c.if-number-ge100000.false)) (omega (arith, c.ranges.number.fits))
