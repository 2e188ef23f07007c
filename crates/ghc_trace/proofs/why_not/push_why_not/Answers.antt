use Rattle.ghc_trace.proofs.Words.{◌≡◌, IsTrue, VarName, subst, StoreValue, value_at}
use Rattle.std.specs.FinSet as set
use Rattle.ghc_term.specs.Sets.{IsSetOf}
use Rattle.ghc_trace.specs.Holding.{IsUnboundIn}
use Rattle.ghc_trace.proofs.CausePlaces.{on_ok}
use Rattle.ghc_trace.proofs.WhyNotTold.{told_as}
use Rattle.ghc_trace.proofs.why_not.push_why_not.Goals as goal

pub push_asked-requires-clause-unbound : goal.push_asked-requires-clause-unbound
push_asked-requires-clause-unbound c y i =
    let is : IsSetOf c.in_ok-first.first (IsUnboundIn (value_at c.args.core.now.world.state.store) c.args.x) =
    subst (λ (s : StoreValue). IsSetOf c.in_ok-first.first (IsUnboundIn (value_at s) c.args.x)) c.store.ensures c.in_ok-first.ensures in
    ((is y).0 i).1

pub returns : goal.returns
returns c =
    let S = value_at c.args.core.now.world.state.store in
    let first = c.in_ok-first.first in
    let is : IsSetOf first (IsUnboundIn S c.args.x) = subst (λ (s : StoreValue). IsSetOf first (IsUnboundIn (value_at s) c.args.x)) c.store.ensures c.in_ok-first.ensures in
    on_ok c.push_asked.result c.push_asked.ensures (λ told. (told.0, told_as c.args.core.now.world (λ (y : VarName). IsTrue (set.contains first y)) (IsUnboundIn S c.args.x) is told.1, told.2))
