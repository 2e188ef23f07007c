use Rattle.ghc_shared.proofs.Words.{drop, ap, subst, items_of, ArePlacesBy, Known}
use mathlib.Core.List.{IsPrefix}
use Rattle.ghc_shared.proofs.Extended.{prefix_items, places_prefix}
use Rattle.ghc_shared.proofs.closing.take_back.Goals as goal

pub returns-clause-begins : goal.returns-clause-begins
returns-clause-begins g c =
    let seen = c.pass.inside.seat.me.0.seen in
    let log = c.args.seat.now.me.0.seen in
    subst (λ l. IsPrefix l (g.C.Growing.history c.args.value.now)) (ap (λ v. v.front) c.pass.view_is) (subst (λ l. IsPrefix (items_of seen) l) c.requires.keeper.1 (prefix_items seen log c.catch_up.ensures.begins))

pub returns-clause-theirs : goal.returns-clause-theirs
returns-clause-theirs g c =
    let seen = c.pass.inside.seat.me.0.seen in
    let log = c.args.seat.now.me.0.seen in
    let is = c.pass.invariant.1 in
    let P : Known g.row.C-Item.Denot → Type 0 = λ v. ArePlacesBy v.number g.N.Naming.base (drop g.N.Naming.base log) v.places in
    subst P c.pass.view_is (places_prefix c.pass.inside.number g.N.Naming.base seen log c.pass.inside.places.items is.opened c.catch_up.ensures.begins is.rising)
