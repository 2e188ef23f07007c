use Rattle.ghc_shared.proofs.Words.{◌<◌, refl, sym, ap, ◌∙◌, arith, items_of}
use Rattle.ghc_shared.proofs.Moves.{copies}
use Rattle.ghc_shared.proofs.Extended.{length-items_of, length-extended}
use Rattle.ghc_shared.proofs.Keeping.{grown, had_seen, sees, makes}
use Rattle.ghc_shared.proofs.booking.book_call.Goals as goal

pub split_seat-claim-requires : goal.split_seat-claim-requires
split_seat-claim-requires g c =
    let words = ap (λ t. t.words) c.requires.tables.0 in
    let one : 0 < c.args.table.now.shared.table_id.words = omega (arith, words, c.requires.tables.1) in
    (c.requires.pass.0 ∙ sym c.requires.tables.0, one, copies _ _)

pub catch_up-requires-clause-counts : goal.catch_up-requires-clause-counts
catch_up-requires-clause-counts g c =
    let log = c.args.kept.now.seat.me.0.seen in
    let history = g.C.Growing.history c.args.value.now in
    let more = grown c.args.accepted (items_of log) history c.requires.adds in
    (c.requires.counts.0 ∙ length-items_of log, c.requires.counts.1 ∙ sym (length-extended log c.args.number (items_of log) history more.0 refl more.1))

pub returns-then-not-accepted-clause-keeper : goal.returns-then-not-accepted-clause-keeper
returns-then-not-accepted-clause-keeper g c =
    let same = rw c.if-not-accepted.true at c.requires.adds in
    let now = sees c.requires.pass.1 c.requires.keeper.1 c.split_seat-claim.ensures.4 c.catch_up.ensures.begins c.catch_up.ensures.keeper.1 c.catch_up.ensures.told.1 c.requires.legal same in
    (c.catch_up.ensures.keeper.0 ∙ c.requires.keeper.0, now.keeper)

pub returns-then-not-accepted-clause-pass : goal.returns-then-not-accepted-clause-pass
returns-then-not-accepted-clause-pass g c =
    let same = rw c.if-not-accepted.true at c.requires.adds in
    let now = sees c.requires.pass.1 c.requires.keeper.1 c.split_seat-claim.ensures.4 c.catch_up.ensures.begins c.catch_up.ensures.keeper.1 c.catch_up.ensures.told.1 c.requires.legal same in
    (c.catch_up.ensures.told.0 ∙ c.requires.keeper.0, now.pass)

pub returns-then-not-accepted-clause-seen : goal.returns-then-not-accepted-clause-seen
returns-then-not-accepted-clause-seen g c = had_seen c.args.seat.now.me c.requires.keeper.1 c.split_seat-claim.ensures.4 c.catch_up.ensures.begins

pub returns-then-not-accepted-clause-begins : goal.returns-then-not-accepted-clause-begins
returns-then-not-accepted-clause-begins g c =
    let same = rw c.if-not-accepted.true at c.requires.adds in
    (sees c.requires.pass.1 c.requires.keeper.1 c.split_seat-claim.ensures.4 c.catch_up.ensures.begins c.catch_up.ensures.keeper.1 c.catch_up.ensures.told.1 c.requires.legal same).begins

pub returns-then-not-accepted-clause-front : goal.returns-then-not-accepted-clause-front
returns-then-not-accepted-clause-front g c =
    let same = rw c.if-not-accepted.true at c.requires.adds in
    (sees c.requires.pass.1 c.requires.keeper.1 c.split_seat-claim.ensures.4 c.catch_up.ensures.begins c.catch_up.ensures.keeper.1 c.catch_up.ensures.told.1 c.requires.legal same).front

pub returns-then-not-accepted-clause-places : goal.returns-then-not-accepted-clause-places
returns-then-not-accepted-clause-places g c = rw c.if-not-accepted.true refl

pub returns-clause-keeper : goal.returns-clause-keeper
returns-clause-keeper g c =
    let more = rw c.if-not-accepted.false at c.requires.adds in
    let now = makes more.0 c.args.place c.requires.pass.1 c.requires.keeper.1 c.split_seat-claim.ensures.4 c.catch_up.ensures.begins c.catch_up.ensures.keeper.1 c.catch_up.ensures.told.1 c.requires.legal c.requires.counts.0 more.1 in
    (c.catch_up.ensures.keeper.0 ∙ c.requires.keeper.0, rw c.add.ensures.total now.keeper)

pub returns-clause-pass : goal.returns-clause-pass
returns-clause-pass g c =
    let more = rw c.if-not-accepted.false at c.requires.adds in
    let now = makes more.0 c.args.place c.requires.pass.1 c.requires.keeper.1 c.split_seat-claim.ensures.4 c.catch_up.ensures.begins c.catch_up.ensures.keeper.1 c.catch_up.ensures.told.1 c.requires.legal c.requires.counts.0 more.1 in
    (c.catch_up.ensures.told.0 ∙ c.requires.keeper.0, rw c.push_reserved.ensures.items (rw c.add.ensures.parts (rw c.add.ensures.amount now.pass)))

pub returns-clause-seen : goal.returns-clause-seen
returns-clause-seen g c = had_seen c.args.seat.now.me c.requires.keeper.1 c.split_seat-claim.ensures.4 c.catch_up.ensures.begins

pub returns-clause-begins : goal.returns-clause-begins
returns-clause-begins g c =
    let more = rw c.if-not-accepted.false at c.requires.adds in
    (makes more.0 c.args.place c.requires.pass.1 c.requires.keeper.1 c.split_seat-claim.ensures.4 c.catch_up.ensures.begins c.catch_up.ensures.keeper.1 c.catch_up.ensures.told.1 c.requires.legal c.requires.counts.0 more.1).begins

pub returns-clause-front : goal.returns-clause-front
returns-clause-front g c =
    let more = rw c.if-not-accepted.false at c.requires.adds in
    (makes more.0 c.args.place c.requires.pass.1 c.requires.keeper.1 c.split_seat-claim.ensures.4 c.catch_up.ensures.begins c.catch_up.ensures.keeper.1 c.catch_up.ensures.told.1 c.requires.legal c.requires.counts.0 more.1).front

pub returns-clause-places : goal.returns-clause-places
returns-clause-places g c = rw c.if-not-accepted.false c.push_reserved.ensures.items
