use Rattle.ghc_trace.proofs.Words.{◌∙◌, ◌∷◌, [], List, sym, subst, VarName, Tree, StoreValue, value_at, In, AreDistinct, numbers, Record}
use Rattle.ghc_term.specs.Bindings.{Reaches}
use Rattle.ghc_term.specs.Sets.{IsSetOf}
use Rattle.ghc_term.specs.Tree.{variable}
use Rattle.ghc_trace.specs.Causes.{AreBindersOf}
use Rattle.ghc_trace.specs.inner.Backward.{HasAllBelow}
use Rattle.ghc_trace.proofs.Ancestors.{has_all_below}
use Rattle.ghc_trace.proofs.Places.{AddsMakers, AreThoseOf, IsEitherWay, binders_on_way, gave_place}
use Rattle.ghc_trace.proofs.place_slices.given_to_place.Goals as goal

pub on_way_to-requires-clause-all : goal.on_way_to-requires-clause-all
on_way_to-requires-clause-all c =
    let t = c.args.core.now.world.state in
    let members = c.members.result.now in
    subst (λ (s : StoreValue). HasAllBelow (value_at s) members) (sym c.store-2.ensures) (has_all_below (value_at t.store) (variable c.args.x) members c.args.reached.now c.members.ensures.all c.requires)

pub on_way_to-requires-clause-below : goal.on_way_to-requires-clause-below
on_way_to-requires-clause-below c =
    let below = c.in_ok-below.below in
    let y = c.args.y in
    subst (λ (s : StoreValue). IsSetOf below (Reaches (value_at s) (variable y))) (c.store.ensures ∙ sym c.store-2.ensures)
    (subst (λ (u : Tree). IsSetOf below (Reaches (value_at c.store.result.now.held) u)) c.variable-variable.ensures c.in_ok-below.ensures)

pub returns : goal.returns
returns c =
    let w = c.args.core.now.world in
    let S = value_at w.state.store in
    let x = c.args.x in
    let y = c.args.y in
    let held = c.records-records.result.now.held in
    let same = c.records-records.ensures in
    let distinct = subst (λ (l : List Record). AreDistinct (numbers l)) same c.len-count.ensures.distinct in
    let way = c.in_ok-way.way.items in
    let binders = c.in_ok-givers.givers.items in
    let those = subst (λ (s : StoreValue). AreThoseOf (IsEitherWay (value_at s) y) c.members.result.now way) c.store-2.ensures c.in_ok-way.ensures in
    let bound = subst (λ (l : List Record). AreBindersOf l (λ z. In z way) binders) same
    (subst (λ (l : List VarName). AreBindersOf held (λ z. In z l) binders) c.as_slice.ensures.value c.in_ok-givers.ensures) in
    let made = subst (λ (l : List Record). AddsMakers l (x ∷ y ∷ []) binders c.add_makers.new.steps.items) same c.in_ok-add_makers.ensures in
    gave_place S w.kept distinct x y binders c.add_makers.new.steps.items
    (binders_on_way w.kept S x y c.args.reached.now c.members.result.now way binders c.members.ensures.all c.requires those bound) made
