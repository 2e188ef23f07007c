use Rattle.std.specs.Prelude.{IsTrue}
use Rattle.std.specs.FinMap as finite
use Rattle.std.proofs.Common.{inl, inr, subst}
use Rattle.ghc_hooks.specs.Tries.{HasLookedAt}
use Rattle.ghc_shared.proofs.Listing.{has_value, looks_among}
use Rattle.ghc_shared.proofs.waking.list_woken.Goals as goal

pub loop-x-init : goal.loop-x-init
loop-x-init c = λ g i. inl i

pub loop-x-preserved : goal.loop-x-preserved
loop-x-preserved c =
    let core = c.args.core.now in
    let es = c.entries-x-items.result.now in
    let b = c.loop-x-item.result in
    let bound = subst (λ m. IsTrue (finite.contains_key m b.0)) c.entries-x-items.ensures.all (has_value es c.loop-x.x-index b c.loop-x-test.true c.loop-x-item.is) in
    λ g k. elim (c.list_all.ensures g k) [
      | inl was ↦ c.loop-x.invariant g was
      | inr looking ↦ inr (looks_among core.world core.notes core.untried c.args.binds.now b.0 g c.stands.ensures.exact bound (subst (λ n. HasLookedAt n b.0 g) c.tries-tries.ensures.notes ((c.looking_at.ensures.each g).0 looking)))
    ]
