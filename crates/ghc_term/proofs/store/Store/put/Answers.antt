use Rattle.ghc_term.proofs.Words.{refl, sym, subst, IsAcyclic, value_at, with_binds}
use Rattle.std.specs.FinMap as finite
use Rattle.ghc_term.proofs.Reaching.{stay_known, without}
use Rattle.ghc_term.proofs.store.Store.put.Goals as goal

pub invariant_of-self-then-has_none : goal.invariant_of-self-then-has_none
invariant_of-self-then-has_none c =
    let K = c.self.inside.known in
    let x = c.first_of-is_far.result.0 in
    let after = c.put_into-then-has_none.new.map.held in (
      subst (λ s. IsAcyclic (value_at s)) (sym c.put_into-then-has_none.ensures) (subst (λ t. IsAcyclic (value_at (with_binds (finite.entries c.args.binds) t.held))) (sym c.self.view_is) c.requires.acyclic),
      without K x (stay_known c.self.inside.map.held after c.args.binds c.entries.result.now x K K c.self.invariant.1 refl c.entries.ensures.all (c.if-has_none.ensures.others refl) c.put_into-then-has_none.ensures)
          (c.if-has_none.ensures.unknown refl),
    )
