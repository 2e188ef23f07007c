use Rattle.ghc_records.proofs.Words.{◌+◌, ◌≤◌, drop, get_or, sym, ap, ◌∙◌, subst, arith, Some, drop_all, drop_more, name_total}
use Rattle.std.specs.FinMap as finite
use Rattle.ghc_records.proofs.VariableBinders.{IsSetTo, set_begin, set_next}
use Rattle.ghc_records.proofs.table.binders.Binders.put_all.Goals as goal

pub loop-x-init : goal.loop-x-init
loop-x-init c =
    let room : finite.len c.args.binds.now ≤ c.self.inside.map.room = subst (λ t. finite.len c.args.binds.now ≤ t.room) (sym c.self.view_is) c.requires in (
      set_begin (Some c.args.number) c.args.binds.now c.self.inside.map.held c.entries-x-items.result.now c.entries-x-items.ensures.all,
      omega (arith, room, c.entries-x-items.ensures.once),
    )

-- an entry is left, so there is room
pub put-requires : goal.put-requires
put-requires c = omega (arith, c.loop-x.invariant.1, c.loop-x-test.true)

pub loop-x-preserved : goal.loop-x-preserved
loop-x-preserved c =
    let es = c.entries-x-items.result.now in
    let b = c.loop-x-item.result in
    let i = c.loop-x.x-index in
    let n = c.args.number in
    let now = c.loop-x.self-inside.map.held in
    let new = c.put.ensures.held ∙ ap (λ a. finite.insert now a.0 n) c.loop-x-item.is in (
      set_next (Some n) c.args.binds.now c.self.inside.map.held now c.put.new.self.held (get_or es i b) (drop (i + 1) es)
          (rw (drop_more es i b c.loop-x-test.true) at c.loop-x.invariant.0)
          (λ y. ap (λ m. finite.get m y) new ∙ finite.get-insert name_total now (get_or es i b).0 n y),
      omega (arith, c.loop-x.invariant.1, c.put.ensures.room),
    )

pub returns : goal.returns
returns c =
    subst (λ t. IsSetTo (Some c.args.number) c.args.binds.now t.held c.loop-x.self-inside.map.held) c.self.view_is
    (rw (drop_all c.loop-x.x-index c.entries-x-items.result.now c.loop-x-test.false) at c.loop-x.invariant.0)
