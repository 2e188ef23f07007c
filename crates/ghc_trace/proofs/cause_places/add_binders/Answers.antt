use Rattle.ghc_trace.proofs.Words.{◌≡◌, ◌+◌, [], ◌∷◌, ◌++◌, get_or, take, sym, subst, arith, take_more, take_all, VarName}
use Rattle.ghc_records.specs.Uses.{Binds}
use Rattle.ghc_trace.specs.Causes.{HasInFront}
use Rattle.ghc_trace.proofs.CausePlaces.{OfOne, of_none, of_one_more, has_found}
use Rattle.ghc_trace.proofs.cause_places.add_binders.Goals as goal

pub loop-x-init : goal.loop-x-init
loop-x-init c = of_none c.args.records.now.slots c.args.place Binds c.args.places.now.keys

pub loop-x-preserved : goal.loop-x-preserved
loop-x-preserved c =
    let ss = c.args.records.now.slots in
    let place = c.args.place in
    let xs = c.args.xs.now in
    let i = c.loop-x.x-index in
    let none : VarName = record { step = 0; place = 0 } in
    let x = get_or xs i none in
    let old = c.args.places.now.keys in
    let ks = c.loop-x.places.keys in
    let new = c.add_in_front.new.places.keys in
    let more : take (i + 1) xs ≡ take i xs ++ x ∷ [] = take_more xs i none c.loop-x-test.true in
    subst (λ l. HasInFront ss place (OfOne ss place Binds l) old new) (sym more)
    (of_one_more ss place Binds (take i xs) x old ks new c.loop-x.invariant (has_found ss place (λ a. Binds a x) c.place_of_binder.result ks new c.place_of_binder.ensures c.in_ok-add_in_front.ensures))

pub returns : goal.returns
returns c =
    let ss = c.args.records.now.slots in
    subst (λ l. HasInFront ss c.args.place (OfOne ss c.args.place Binds l) c.args.places.now.keys c.loop-x.places.keys) (take_all c.loop-x.x-index c.args.xs.now (omega (arith, c.loop-x-test.false))) c.loop-x.invariant
