use Rattle.ghc_core.proofs.Words.{refl, sym, subst, World, Reorders as reorders, CanChange, Changes, to_arrange, does}
use Rattle.ghc_core.proofs.core_state.Core.arrange.Goals as goal

pub put_in_order-requires-clause-found : goal.put_in_order-requires-clause-found
put_in_order-requires-clause-found c = subst (λ (w : World). CanChange w (reorders c.in-Ok.arrangement)) (sym c.reserve_to_arrange.ensures.stays.world) c.in-Ok.ensures.found

pub returns-clause-ok : goal.returns-clause-ok
returns-clause-ok c =
    let w = c.args.self.now.world in
    let found = c.in-Ok.ensures in
    let changed = subst (λ (u : World). Changes u (reorders c.in-Ok.arrangement) c.put_in_order.new.self.world) c.in_ok-reserve_to_arrange.ensures.stays.world c.put_in_order.ensures.changed in
    does (to_arrange found.order) (rw c.index_records.ensures at found.found) (rw c.index_records.ensures at changed) refl
