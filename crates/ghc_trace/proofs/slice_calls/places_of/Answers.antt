use Rattle.ghc_trace.proofs.Words.{◌≡◌, ◌+◌, [], ◌∷◌, ◌++◌, List, Some, None, length, get_or, take, sym, subst, arith, take_more, take_all, goal_cmp}
use Rattle.std.proofs.lemmas.List.{length-take-le}
use Rattle.std.specs.BTreeMap.{Updates}
use Rattle.ghc_trace.proofs.CallPlaces.{AreNamed, as_places, place_more, places_none}
use Rattle.ghc_trace.specs.declared.slice_calls.Call.{Call}
use Rattle.ghc_trace.proofs.slice_calls.places_of.Goals as goal

pub loop-place-init : goal.loop-place-init
loop-place-init c = places_none c.new-places.result c.new-places.ensures.empty

pub loop-place-preserved : goal.loop-place-preserved
loop-place-preserved c =
    let items = c.args.list.now in
    let i = c.loop-place.place in
    let none : Call = record { name = record { step = 0; place = 0 }; maker = None; taker = None } in
    let d = get_or items i none in
    let more : take (i + 1) items ≡ take i items ++ d ∷ [] = take_more items i none c.loop-place-test.true in
    let long : length (take i items) ≡ i = length-take-le i items (omega (arith, c.loop-place-test.true)) in
    let up = subst (λ k. Updates goal_cmp c.loop-place.places c.insert.new.self d.name (Some k)) (sym long) c.in-Ok.ensures.updates in
    subst (λ (l : List Call). AreNamed l c.insert.new.self) (sym more) (place_more (take i items) d c.loop-place.places c.insert.new.self c.loop-place.invariant up)

pub returns : goal.returns
returns c =
    let items = c.args.list.now in
    as_places items c.loop-place.places (subst (λ (l : List Call). AreNamed l c.loop-place.places) (take_all c.loop-place.place items (omega (arith, c.loop-place-test.false))) c.loop-place.invariant)
