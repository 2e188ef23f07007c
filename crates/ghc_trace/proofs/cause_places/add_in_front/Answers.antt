use Rattle.ghc_trace.proofs.Words.{sym, subst, arith, nat_cmp, insert_key}
use Rattle.ghc_trace.proofs.CausePlaces.{HasFound, none_found, found_behind, found_in_front}
use Rattle.ghc_trace.proofs.cause_places.add_in_front.Goals as goal

pub returns-in_default : goal.returns-in_default
returns-in_default c =
    let old = c.args.places.now.keys in
    subst (λ o. HasFound c.args.place o old old) (sym c.in_default.is) (none_found c.args.place old)

pub returns-then-place-one : goal.returns-then-place-one
returns-then-place-one c =
    let old = c.args.places.now.keys in
    subst (λ o. HasFound c.args.place o old old) (sym c.in-Some.is) (found_behind c.args.place c.in-Some.one old (λ low. omega (arith, low, c.if-place-one.true)))

pub returns-in-Ok : goal.returns-in-Ok
returns-in-Ok c =
    let old = c.args.places.now.keys in
    let one = c.in-Some.one in
    subst (λ new. HasFound c.args.place c.args.found old new) (sym c.in-Ok.ensures.keys)
    (subst (λ o. HasFound c.args.place o old (insert_key nat_cmp old one)) (sym c.in-Some.is) (found_in_front c.args.place one old (omega (arith, c.if-place-one.false))))
