use Rattle.ghc_records.proofs.Words.{◌≡◌, sym, ◌∙◌, Some, None, held_in}
use Rattle.ghc_records.proofs.SlotFronts.{binder_before, one_binder, binder_found, none_found}
use Rattle.ghc_records.proofs.records.Records.binder_of.Goals as goal

pub returns-in-Some : goal.returns-in-Some
returns-in-Some c m =
    let ss = c.self.inside.slots.held in
    let n = c.in-Some.binder in
    rw (← c.self.view_is) (one_binder (held_in ss) c.args.x n c.self.invariant.2 (binder_before ss c.self.inside.indexed n c.args.x ((c.self.invariant.1.bound c.args.x n).0 (sym c.binder_of.ensures ∙ c.in-Some.is))) m)

pub returns-in-None : goal.returns-in-None
returns-in-None c m =
    let ss = c.self.inside.slots.held in
    rw (← c.self.view_is) (binder_found (held_in ss) c.args.x c.binder_from.result c.self.invariant.2 c.binder_from.ensures.some
    (none_found ss c.self.inside.indexed c.args.x c.binder_from.result (λ n s. let clash : None ≡ Some n = sym c.in-None.is ∙ c.binder_of.ensures ∙ (c.self.invariant.1.bound c.args.x n).1 s in cc) c.binder_from.ensures.none) m)
