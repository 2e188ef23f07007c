use Rattle.std.proofs.Common.{◌<◌, sym, ap, subst, ◌∙◌, arith}
use Rattle.std.specs.FinMap as finite
use Rattle.ghc_term.proofs.PlacedGoals.{within}
use Rattle.ghc_term.proofs.ChangedPlaces.{put_places, put_held, set_held}
use Rattle.ghc_term.proofs.table.goal_map.GoalMap.put.Goals as goal

pub index_mut-requires : goal.index_mut-requires
index_mut-requires g c =
    let i = c.self.inside in
    let at = within i.names.items i.values.items i.places.held c.self.invariant.0 c.args.name c.in-Some.place (sym c.in-Some.ensures) in
    omega (arith, at, c.self.invariant.0.0, i.values.ok.0)

pub returns-in-Some-clause-held : goal.returns-in-Some-clause-held
returns-in-Some-clause-held g c =
    let i = c.self.inside in
    set_held i.names.items i.values.items i.places.held c.self.invariant.0 c.args.name c.in-Some.place (sym c.in-Some.ensures) c.args.value ∙ ap (λ t. finite.insert t.held c.args.name c.args.value) c.self.view_is

pub invariant_of-self-in-None : goal.invariant_of-self-in-None
invariant_of-self-in-None g c =
    let i = c.self.inside in
    let room = subst (λ t. 0 < t.room) (sym c.self.view_is) c.requires in
    let h = c.self.invariant.1 in
    let more = c.push_reserved.ensures.len in
    let names = c.push_reserved.ensures.capacity in
    let values = c.push_reserved-in-None.ensures.capacity in (
      put_places i.names.items i.values.items i.places.held c.self.invariant.0 c.args.name c.args.value (sym c.in-None.ensures) c.push_reserved.new.self.items c.push_reserved-in-None.new.self.items c.put.new.self.held
          c.push_reserved.ensures.items c.push_reserved-in-None.ensures.items (c.put.ensures.held ∙ ap (finite.insert i.places.held c.args.name) (c.len.ensures ∙ i.names.ok.0)) (omega (arith, room, i.names.ok.0)),
      (omega (arith, room, h.0, more, names), omega (arith, room, h.1, more, values), omega (arith, room, h.2, c.put.ensures.room), omega (arith, room, h.3, more)),
    )

pub returns-in-None-clause-held : goal.returns-in-None-clause-held
returns-in-None-clause-held g c =
    let i = c.self.inside in
    let room = subst (λ t. 0 < t.room) (sym c.self.view_is) c.requires in
    put_held i.names.items i.values.items i.places.held c.self.invariant.0 c.args.name c.args.value (sym c.in-None.ensures) c.push_reserved.new.self.items c.push_reserved-in-None.new.self.items c.put.new.self.held
    c.push_reserved.ensures.items c.push_reserved-in-None.ensures.items (c.put.ensures.held ∙ ap (finite.insert i.places.held c.args.name) (c.len.ensures ∙ i.names.ok.0)) (omega (arith, room, i.names.ok.0))
    ∙ ap (λ t. finite.insert t.held c.args.name c.args.value) c.self.view_is
