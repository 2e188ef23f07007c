use Rattle.ghc_shared.proofs.Words.{drop, subst, IsStrictlyIncreasing}
use Rattle.ghc_shared.proofs.PlacesOnce.{increasing}
use Rattle.ghc_shared.proofs.pass.Pass.places.Goals as goal

pub returns-clause-rising : goal.returns-clause-rising
returns-clause-rising g c =
    let seen = c.self.inside.seat.me.0.seen in
    subst (λ v. IsStrictlyIncreasing v.places) c.self.view_is (increasing c.self.inside.number g.N.Naming.base (drop g.N.Naming.base seen) c.self.inside.places.items c.self.invariant.1.rising)
