use Rattle.ghc_records.proofs.Words.{◌+◌, drop, get_or, ap, ◌∙◌, subst, None, drop_all, drop_more, name_total}
use Rattle.std.specs.FinMap as finite
use Rattle.ghc_records.proofs.VariableBinders.{IsSetTo, set_begin, set_next}
use Rattle.ghc_records.proofs.table.binders.Binders.remove_all.Goals as goal

pub loop-x-init : goal.loop-x-init
loop-x-init c = set_begin None c.args.binds.now c.self.inside.map.held c.entries-x-items.result.now c.entries-x-items.ensures.all

pub loop-x-preserved : goal.loop-x-preserved
loop-x-preserved c =
    let es = c.entries-x-items.result.now in
    let b = c.loop-x-item.result in
    let i = c.loop-x.x-index in
    let now = c.loop-x.self-inside.map.held in
    let new = c.remove.ensures.held ∙ ap (λ a. finite.remove now a.0) c.loop-x-item.is in
    set_next None c.args.binds.now c.self.inside.map.held now c.remove.new.self.held (get_or es i b) (drop (i + 1) es)
    (rw (drop_more es i b c.loop-x-test.true) at c.loop-x.invariant) (λ y. ap (λ m. finite.get m y) new ∙ finite.get-remove name_total now (get_or es i b).0 y)

pub returns : goal.returns
returns c =
    subst (λ t. IsSetTo None c.args.binds.now t.held c.loop-x.self-inside.map.held) c.self.view_is
    (rw (drop_all c.loop-x.x-index c.entries-x-items.result.now c.loop-x-test.false) at c.loop-x.invariant)
