use Rattle.std.proofs.Common.{length, ap, arith, rules}
use Rattle.ghc_core.proofs.QueryVariables.{in_query, of_query}
use Rattle.ghc_core.proofs.variables.is_of_query.Goals as goal

pub returns-then-x-eq0 : goal.returns-then-x-eq0
returns-then-x-eq0 c =
    let q = c.args.query.now in
    let well = c.goals-goals.ensures.well_asked in
    let count = ap length c.variables.ensures in (
      λ yes. let within = c.is_place.ensures.0 yes in in_query q well c.args.x c.if-x-eq0.true within.0 (omega (arith, within.1, count)),
      λ i. let known = of_query q well c.args.x i in c.is_place.ensures.1 (known.1, omega (arith, known.2, count)),
    )

pub returns-else-x-eq0 : goal.returns-else-x-eq0
returns-else-x-eq0 c = (
  λ yes. absurd (c.if-x-eq0.false (search rules)),
  λ i. absurd (c.if-x-eq0.false (of_query c.args.query.now c.goals-goals.ensures.well_asked c.args.x i).0),
)
