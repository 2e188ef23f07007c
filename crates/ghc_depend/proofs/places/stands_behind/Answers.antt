use Rattle.ghc_depend.proofs.Words.{◌<◌, sym, subst, ltb-true, lt-ltb, in_at, arith}
use Rattle.ghc_depend.proofs.OrderWalks.{not_any, one_place, place_found}
use Rattle.ghc_depend.proofs.places.stands_behind.Goals as goal

pub returns-in-Some : goal.returns-in-Some
returns-in-Some c =
    let keys = c.args.places.now.keys in
    let own = c.in-Some.own in
    let at = place_found keys c.args.number own (sym c.in-Some.ensures.index) in (
      λ t. (own, at, ltb-true c.args.place own t),
      λ w. lt-ltb c.args.place own (subst (λ p. c.args.place < p) (one_place keys w.0 own c.args.number c.requires w.1 at) w.2),
    )

pub returns-in-None : goal.returns-in-None
returns-in-None c = grind (arith, not_any, in_at)
