use Rattle.ghc_shared.proofs.Words.{◌<◌, refl, sym, ap, ◌∙◌, subst, arith, items_of}
use mathlib.Core.List.{IsPrefix}
use Rattle.ghc_shared.proofs.Moves.{copies}
use Rattle.ghc_shared.proofs.Keeping.{sees}
use Rattle.ghc_shared.proofs.locked.Locked.look.Goals as goal

pub split_seat-claim-requires : goal.split_seat-claim-requires
split_seat-claim-requires g c =
    let words = ap (λ t. t.words) c.requires.0 in
    let one : 0 < c.args.table.now.shared.table_id.words = omega (arith, words, c.requires.1) in
    (c.me.invariant.0 ∙ sym c.requires.0, one, copies _ _)

pub invariant_of-self : goal.invariant_of-self
invariant_of-self g c =
    let had = rw (sym c.in-Some.ensures.result) at c.self.invariant in
    let now = sees c.me.invariant.1 had.1.1 c.split_seat-claim.ensures.4 c.catch_up.ensures.begins c.catch_up.ensures.keeper.1 c.catch_up.ensures.told.1 c.len-count.ensures.legal refl in
    (had.0, rw c.replace-2.ensures.new (c.catch_up.ensures.keeper.0 ∙ had.1.0, now.keeper))

pub invariant_of-me : goal.invariant_of-me
invariant_of-me g c =
    let had = rw (sym c.in-Some.ensures.result) at c.self.invariant in
    let now = sees c.me.invariant.1 had.1.1 c.split_seat-claim.ensures.4 c.catch_up.ensures.begins c.catch_up.ensures.keeper.1 c.catch_up.ensures.told.1 c.len-count.ensures.legal refl in
    (c.catch_up.ensures.told.0 ∙ had.1.0, now.pass)

pub returns-clause-begins : goal.returns-clause-begins
returns-clause-begins g c =
    let had = rw (sym c.in-Some.ensures.result) at c.self.invariant in
    let now = sees c.me.invariant.1 had.1.1 c.split_seat-claim.ensures.4 c.catch_up.ensures.begins c.catch_up.ensures.keeper.1 c.catch_up.ensures.told.1 c.len-count.ensures.legal refl in
    subst (λ l. IsPrefix l (items_of c.catch_up.result.me.0.seen)) (ap (λ v. v.front) c.me.view_is) now.begins
