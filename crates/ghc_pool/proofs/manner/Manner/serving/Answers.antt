use Rattle.std.proofs.Math.Nat.{lt_of_not-le}
use Rattle.ghc_pool.proofs.Telling.{not_told}
use Rattle.ghc_pool.proofs.manner.Manner.serving.Goals as goal

pub returns-then-holds_up : goal.returns-then-holds_up
returns-then-holds_up g c = let has = c.has_few_clauses-few.ensures in (has.0, has.1, c.if-holds_up.true)

pub returns-then-few : goal.returns-then-few
returns-then-few g c = let has = c.has_few_clauses-few.ensures in (has.0, has.1, (c.if-holds_up.false, has.2.0 c.if-few.true))

pub returns : goal.returns
returns g c =
    let has = c.has_few_clauses-few.ensures in
    (has.0, has.1, (c.if-holds_up.false, lt_of_not-le (not_told c.has_few_clauses-few.result c.if-few.false has.2.1)))
