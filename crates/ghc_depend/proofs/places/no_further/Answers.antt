use Rattle.ghc_depend.proofs.Words.{sym, arith, in_at}
use Rattle.ghc_depend.proofs.OrderWalks.{not_any, one_place, place_found}
use Rattle.ghc_depend.proofs.places.no_further.Goals as goal

pub returns-then-own-place-clause-found : goal.returns-then-own-place-clause-found
returns-then-own-place-clause-found c own at front =
    let keys = c.args.places.now.keys in
    let same = one_place keys own c.in-Some.own c.args.number c.requires at (place_found keys c.args.number c.in-Some.own (sym c.in-Some.ensures.index)) in
    omega (arith, same, c.min.ensures)

pub returns-else-own-place-clause-found : goal.returns-else-own-place-clause-found
returns-else-own-place-clause-found c own at front =
    let keys = c.args.places.now.keys in
    let same = one_place keys own c.in-Some.own c.args.number c.requires at (place_found keys c.args.number c.in-Some.own (sym c.in-Some.ensures.index)) in
    omega (arith, same, front, c.if-own-place.false)

pub returns-in-None-clause-found : goal.returns-in-None-clause-found
returns-in-None-clause-found c own at front = absurd (not_any c.args.number c.args.places.now.keys (sym c.in-None.ensures.found) (in_at c.args.places.now.keys own c.args.number at))
