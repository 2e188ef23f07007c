use Rattle.ghc_term.proofs.Words.{◌<◌, sym, ap, subst, length, ◌∙◌, arith, slice_get_read, ArePlaces}
use Rattle.std.specs.FinMap as finite
use Rattle.ghc_term.proofs.PlacedGoals.{value_at, held_is, within}
use Rattle.ghc_term.proofs.GoalNames.{goal_total, goal_antisymmetric}
use Rattle.ghc_term.proofs.Slots.{gone_same}
use Rattle.ghc_term.proofs.ChangedPlaces.{end_is, moved_is_there, moved_is}
use Rattle.ghc_term.proofs.table.goal_map.GoalMap.remove.Goals as goal
use Rattle.ghc_term.proofs.table.goal_map.GoalMap.remove.Goals.{then-place-len, else-place-len}

pub invariant_of-self : goal.invariant_of-self
invariant_of-self g c =
    let i = c.self.inside in
    let h = c.self.invariant.1 in (
      subst (ArePlaces i.names.items (length i.values.items))
          (sym (c.in_err-place.ensures.held ∙ gone_same goal_total goal_antisymmetric i.places.held c.args.name c.in_err-place.ensures.value)) c.self.invariant.0,
      (h.0, h.1, omega (arith, h.2, c.in_err-place.ensures.room), h.3),
    )

pub returns-in_err-place-clause-value : goal.returns-in_err-place-clause-value
returns-in_err-place-clause-value g c =
    let i = c.self.inside in
    c.from_residual.ensures ∙ ap (λ o. value_at o i.values.items) c.in_err-place.ensures.value ∙ sym (held_is i.names.items i.values.items i.places.held c.self.invariant.0 c.args.name) ∙ ap (λ t. finite.get t.held c.args.name) c.self.view_is

pub returns-in_err-place-clause-held : goal.returns-in_err-place-clause-held
returns-in_err-place-clause-held g c =
    let i = c.self.inside in
    let none = ap (λ o. value_at o i.values.items) c.in_err-place.ensures.value ∙ sym (held_is i.names.items i.values.items i.places.held c.self.invariant.0 c.args.name) ∙ ap (λ t. finite.get t.held c.args.name) c.self.view_is in
    ap (λ t. t.held) c.self.view_is ∙ sym (gone_same goal_total goal_antisymmetric c.args.self.now.held c.args.name none)

pub swap_remove-value-requires : goal.swap_remove-value-requires
swap_remove-value-requires g c =
    let i = c.self.inside in
    let at = within i.names.items i.values.items i.places.held c.self.invariant.0 c.args.name c.in_ok-place.place (sym c.in_ok-place.ensures.value) in
    omega (arith, at, c.self.invariant.0.0, i.values.ok.0)

pub swap_remove-requires : goal.swap_remove-requires
swap_remove-requires g c =
    let i = c.self.inside in
    let at = within i.names.items i.values.items i.places.held c.self.invariant.0 c.args.name c.in_ok-place.place (sym c.in_ok-place.ensures.value) in
    omega (arith, at, i.names.ok.0)

pub replace-requires-clause-there : goal.replace-requires-clause-there
replace-requires-clause-there g c =
    let i = c.self.inside in
    let ns = c.swap_remove.new.self in
    let vs = c.swap_remove-value.new.self in
    let before : c.in_ok-place.place < length ns.items = omega (arith, c.if-place-len.true, c.len.ensures, ns.ok.0) in
    moved_is_there i.names.items i.values.items i.places.held c.self.invariant.0 c.args.name c.in_ok-place.place (sym c.in_ok-place.ensures.value) c.swap_remove.result c.swap_remove-value.result ns.items vs.items
    c.swap_remove.ensures.items c.swap_remove-value.ensures.items c.remove.new.self.held c.in_ok-place.ensures.held c.index.result.now before
    (slice_get_read ns.items _ c.in_ok-place.place c.index.result.now ns.ok.0 (omega (arith, before, ns.ok.0)) c.index.ensures)

pub invariant_of-self-then-place-len : goal.invariant_of-self-then-place-len
invariant_of-self-then-place-len g c =
    let i = c.self.inside in
    let ns = c.swap_remove.new.self in
    let vs = c.swap_remove-value.new.self in
    let before : c.in_ok-place.place < length ns.items = omega (arith, c.if-place-len.true, c.len.ensures, ns.ok.0) in
    let h = c.self.invariant.1 in
    let less = c.swap_remove.ensures.len in (
      (moved_is i.names.items i.values.items i.places.held c.self.invariant.0 c.args.name c.in_ok-place.place (sym c.in_ok-place.ensures.value) c.swap_remove.result c.swap_remove-value.result ns.items vs.items
          c.swap_remove.ensures.items c.swap_remove-value.ensures.items c.remove.new.self.held c.in_ok-place.ensures.held c.index.result.now before
          (slice_get_read ns.items _ c.in_ok-place.place c.index.result.now ns.ok.0 (omega (arith, before, ns.ok.0)) c.index.ensures) c.replace.new.self.held c.replace.ensures.held).0,
      (
        omega (arith, h.0, less, c.swap_remove.ensures.capacity),
        omega (arith, h.1, less, c.swap_remove-value.ensures.capacity),
        omega (arith, h.2, c.in_ok-place.ensures.room, c.replace.ensures.room),
        omega (arith, h.3, less),
      ),
    )

pub invariant_of-self-else-place-len : goal.invariant_of-self-else-place-len
invariant_of-self-else-place-len g c =
    let i = c.self.inside in
    let ns = c.swap_remove.new.self in
    let vs = c.swap_remove-value.new.self in
    let h = c.self.invariant.1 in
    let less = c.swap_remove.ensures.len in (
      (end_is i.names.items i.values.items i.places.held c.self.invariant.0 c.args.name c.in_ok-place.place (sym c.in_ok-place.ensures.value) c.swap_remove.result c.swap_remove-value.result ns.items vs.items
          c.swap_remove.ensures.items c.swap_remove-value.ensures.items c.remove.new.self.held c.in_ok-place.ensures.held (omega (arith, c.if-place-len.false, c.len.ensures, ns.ok.0))).0,
      (
        omega (arith, h.0, less, c.swap_remove.ensures.capacity),
        omega (arith, h.1, less, c.swap_remove-value.ensures.capacity),
        omega (arith, h.2, c.in_ok-place.ensures.room),
        omega (arith, h.3, less),
      ),
    )

pub returns-clause-value : goal.returns-clause-value
returns-clause-value g c =
    let i = c.self.inside in
    let at = within i.names.items i.values.items i.places.held c.self.invariant.0 c.args.name c.in_ok-place.place (sym c.in_ok-place.ensures.value) in
    sym (slice_get_read i.values.items _ c.in_ok-place.place c.swap_remove-value.result i.values.ok.0 (omega (arith, at, c.self.invariant.0.0, i.values.ok.0)) c.swap_remove-value.ensures.value)
    ∙ ap (λ o. value_at o i.values.items) c.in_ok-place.ensures.value ∙ sym (held_is i.names.items i.values.items i.places.held c.self.invariant.0 c.args.name) ∙ ap (λ t. finite.get t.held c.args.name) c.self.view_is

pub returns-clause-held : goal.returns-clause-held
returns-clause-held g c =
    let i = c.self.inside in
    let ns = c.swap_remove.new.self in
    let vs = c.swap_remove-value.new.self in
    elim c.if-place-len.branch [
      | then-place-len w ↦
          let before : c.in_ok-place.place < length ns.items = omega (arith, w.if-place-len.true, c.len.ensures, ns.ok.0) in
          ap (λ t. t.held) w.self-is
          ∙ (moved_is i.names.items i.values.items i.places.held c.self.invariant.0 c.args.name c.in_ok-place.place (sym c.in_ok-place.ensures.value) c.swap_remove.result c.swap_remove-value.result ns.items vs.items
          c.swap_remove.ensures.items c.swap_remove-value.ensures.items c.remove.new.self.held c.in_ok-place.ensures.held w.index.result.now before
          (slice_get_read ns.items _ c.in_ok-place.place w.index.result.now ns.ok.0 (omega (arith, before, ns.ok.0)) w.index.ensures) w.replace.new.self.held w.replace.ensures.held).1
          ∙ ap (λ t. finite.remove t.held c.args.name) c.self.view_is
      | else-place-len w ↦
          ap (λ t. t.held) w.self-is
          ∙ (end_is i.names.items i.values.items i.places.held c.self.invariant.0 c.args.name c.in_ok-place.place (sym c.in_ok-place.ensures.value) c.swap_remove.result c.swap_remove-value.result ns.items vs.items
          c.swap_remove.ensures.items c.swap_remove-value.ensures.items c.remove.new.self.held c.in_ok-place.ensures.held (omega (arith, w.if-place-len.false, c.len.ensures, ns.ok.0))).1
          ∙ ap (λ t. finite.remove t.held c.args.name) c.self.view_is
    ]
