use Rattle.ghc_shared.proofs.Words.{◌<◌, [], refl, ap, sym, ◌∙◌, arith, front}
use Rattle.ghc_shared.proofs.Moves.{copies}
use Rattle.ghc_shared.proofs.Newcomers.{newcomer_is, told_opening}
use Rattle.ghc_shared.proofs.opening.newcomer.Goals as goal

pub split_seat-requires : goal.split_seat-requires
split_seat-requires g c =
    let words = ap (λ t. t.words) c.requires.table.0 in
    let one : 0 < c.args.table.now.shared.table_id.words = omega (arith, words, c.requires.table.1) in
    (c.requires.table.2 ∙ sym c.requires.table.0, one, copies _ _)

pub invariant_of-result : goal.invariant_of-result
invariant_of-result g c =
    let history = g.C.Growing.history c.args.value.now in
    let told = c.split_seat.ensures.4 ∙ ap (λ m. (front m.0.seen, [])) c.requires.table.3 in
    (c.split_seat.ensures.3 ∙ c.requires.table.2, newcomer_is _ g.N.Naming.base g.N.Naming.passes g.C.Growing.legal c.args.number c.new.result.items c.split_seat.result.me c.split_off.result.parts c.split_off.result.amount history told c.len-count.ensures.legal c.requires.counts.1 c.requires.counts.0 c.split_off.ensures.parts c.split_off.ensures.amount c.new.ensures.items)

pub returns-clause-pass : goal.returns-clause-pass
returns-clause-pass g c =
    let told = c.split_seat.ensures.4 ∙ ap (λ m. (front m.0.seen, [])) c.requires.table.3 in
    (refl, told_opening _ c.split_seat.result.me _ told, c.new.ensures.items, refl)
