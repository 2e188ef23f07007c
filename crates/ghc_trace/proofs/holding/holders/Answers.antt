use Rattle.ghc_trace.proofs.Words.{subst, StoreValue, value_at}
use Rattle.ghc_term.specs.Sets.{IsSetOf}
use Rattle.ghc_trace.specs.Holding.{IsUnboundIn}
use Rattle.ghc_core.proofs.Redone.{if_ok}
use Rattle.ghc_trace.proofs.Held.{holders_are}
use Rattle.ghc_trace.proofs.holding.holders.Goals as goal

pub returns : goal.returns
returns c =
    let t = c.args.core.now.world.state in
    let x = c.args.x in
    let unbound = c.in_ok-unbound.unbound in
    let free : IsSetOf unbound (IsUnboundIn (value_at t.store) x) = subst (λ (s : StoreValue). IsSetOf unbound (IsUnboundIn (value_at s) x)) c.store.ensures c.in_ok-unbound.ensures in
    if_ok c.holders_among.result c.holders_among.ensures (λ list among. holders_are t x unbound list.items free among)
