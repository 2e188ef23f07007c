use Rattle.ghc_term.proofs.Words.{sym, ap, ◌∙◌, arith, slice_get_read}
use Rattle.std.specs.FinMap as finite
use Rattle.ghc_term.proofs.PlacedGoals.{value_at, held_is, within}
use Rattle.ghc_term.proofs.table.goal_map.GoalMap.get.Goals as goal

pub index-requires : goal.index-requires
index-requires g c =
    let i = c.self.inside in
    let at = within i.names.items i.values.items i.places.held c.self.invariant.0 c.args.name c.in-Some.place (sym c.in-Some.ensures) in
    omega (arith, at, c.self.invariant.0.0, i.values.ok.0)

pub returns-in-Some : goal.returns-in-Some
returns-in-Some g c =
    let i = c.self.inside in
    let at = within i.names.items i.values.items i.places.held c.self.invariant.0 c.args.name c.in-Some.place (sym c.in-Some.ensures) in
    sym (slice_get_read i.values.items _ c.in-Some.place c.index.result.now i.values.ok.0 (omega (arith, at, c.self.invariant.0.0, i.values.ok.0)) c.index.ensures)
    ∙ ap (λ o. value_at o i.values.items) c.in-Some.ensures ∙ sym (held_is i.names.items i.values.items i.places.held c.self.invariant.0 c.args.name) ∙ ap (λ t. finite.get t.held c.args.name) c.self.view_is

pub returns-in-None : goal.returns-in-None
returns-in-None g c =
    let i = c.self.inside in
    ap (λ o. value_at o i.values.items) c.in-None.ensures ∙ sym (held_is i.names.items i.values.items i.places.held c.self.invariant.0 c.args.name) ∙ ap (λ t. finite.get t.held c.args.name) c.self.view_is
