use Rattle.ghc_records.proofs.Words.{sym, subst, arith, HasGrown}
use Rattle.ghc_records.proofs.NearUsers.{grown_once}
use Rattle.ghc_records.proofs.table.users.grow.Goals as goal

pub loop-preserved : goal.loop-preserved
loop-preserved c =
    let more = grown_once c.reserve.new.self.items c.loop.sets.items c.new.result c.loop.invariant.0 c.new.ensures.held in (
      subst (HasGrown c.reserve.new.self.items) (sym c.push_reserved.ensures.items) more,
      omega (arith, c.loop.invariant.1, c.push_reserved.ensures.len),
      omega (arith, c.loop.invariant.2, c.push_reserved.ensures.capacity),
    )

pub returns-clause-grown : goal.returns-clause-grown
returns-clause-grown c = subst (λ l. HasGrown l c.loop.sets.items) c.reserve.ensures.items c.loop.invariant.0
