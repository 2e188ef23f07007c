use Rattle.ghc_shared.proofs.Words.{◌<◌, length, sym, ap, ◌∙◌, arith, extended, beside}
use Rattle.ghc_shared.proofs.Moves.{copies, compares, catches_as}
use Rattle.ghc_shared.proofs.keeper.catch_up.Goals as goal

pub join_seat-requires : goal.join_seat-requires
join_seat-requires g c =
    let one : 0 < c.args.table.now.shared.table_id.words = omega (arith, c.requires.tables.2) in
    (c.requires.tables.0, c.requires.tables.1, c.requires.keeps.2, one, compares _ _ _ _)

pub compare_exchange_with-requires : goal.compare_exchange_with-requires
compare_exchange_with-requires g c =
    let one : 0 < c.args.table.now.shared.table_id.words = omega (arith, c.requires.tables.2) in
    let j = c.join_seat.ensures in
    let v = beside c.args.seat.now.me.0 c.args.claim.me.0 in
    let is = j.2 ∙ ap (λ l. (v, l)) c.requires.keeps.1 in
    (j.0 ∙ c.requires.tables.0, one, catches_as g.C.Growing.history _ _ _ v _ _ _ is c.requires.keeps.0 c.requires.counts.0 (c.requires.counts.1 ∙ ap (λ x. length (extended c.args.seat.now.me.0.seen c.args.by (g.C.Growing.history x))) (sym c.of.ensures)))

pub split_seat-requires : goal.split_seat-requires
split_seat-requires g c =
    let one : 0 < c.args.table.now.shared.table_id.words = omega (arith, c.requires.tables.2) in
    let j = c.join_seat.ensures in
    let e = c.compare_exchange_with.ensures in
    (e.0 ∙ j.0 ∙ c.requires.tables.0, one, copies _ _)
