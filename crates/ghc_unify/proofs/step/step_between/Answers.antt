use Rattle.ghc_unify.proofs.Words.{◌≡◌, ap, ◌∙◌, Clash, Cycle, Err, value_at, met}
use Rattle.std.specs.FinSet as set
use Rattle.ghc_unify.proofs.FirstEquation.{apart, shared_move, left_move, left_cycle, right_move, right_cycle, both_move, both_clash}
use Rattle.ghc_unify.proofs.Growth.{read_both}
use Rattle.ghc_unify.proofs.Refusals.{fault_is, value_of}
use Rattle.ghc_unify.proofs.step.step_between.Goals as goal

pub returns-then-sides-clause-ok : goal.returns-then-sides-clause-ok
returns-then-sides-clause-ok c =
    let S = value_at c.args.store.now.held in
    let reads = c.in_ok-add_bound_reads.ensures in
    let more = c.in_ok-add_bound_reads-2.ensures in
    (_, shared_move c.requires.sides c.if-sides.true, read_both S _ reads c.deref.ensures.value more c.deref-then-sides.ensures.value)

pub returns-in_err-binding-clause-cycle : goal.returns-in_err-binding-clause-cycle
returns-in_err-binding-clause-cycle c e =
    let S = value_at c.args.store.now.held in
    let is : c.in_err-binding.field-0.0 ≡ Cycle = fault_is _ c.from_residual-in_err-binding.ensures.1 e in
    left_cycle S c.args.binds.now (apart c.requires.sides c.if-sides.false) c.in-Var.ensures.shown (c.in_err-binding.ensures.cycle (ap Err is))

pub returns-in-Var-clause-ok : goal.returns-in-Var-clause-ok
returns-in-Var-clause-ok c =
    let S = value_at c.args.store.now.held in
    let b = c.in_ok-binding.ensures in (
      _,
      left_move S c.args.binds.now (apart c.requires.sides c.if-sides.false) c.in-Var.ensures.shown b.ok b.open,
      c.in_ok-add_bound_reads.ensures ∙ ap (λ z. set.union c.args.reads.now (set.from_list (met S z))) c.deref.ensures.value,
    )

pub returns-in_err-binding-2-clause-cycle : goal.returns-in_err-binding-2-clause-cycle
returns-in_err-binding-2-clause-cycle c e =
    let S = value_at c.args.store.now.held in
    let is : c.in_err-binding-2.field-0.0 ≡ Cycle = fault_is _ c.from_residual-in_err-binding-2.ensures.1 e in
    let v = value_of c.view.result _ c.in_default.not-Var c.view.ensures.shown in
    right_cycle S c.args.binds.now (apart c.requires.sides c.if-sides.false) v c.in-Var-view.ensures.shown (c.in_err-binding-2.ensures.cycle (ap Err is))

pub returns-in-Var-view-clause-ok : goal.returns-in-Var-view-clause-ok
returns-in-Var-view-clause-ok c =
    let S = value_at c.args.store.now.held in
    let v = value_of c.view.result _ c.in_default.not-Var c.view.ensures.shown in
    let b = c.in_ok-binding-2.ensures in (
      _,
      right_move S c.args.binds.now (apart c.requires.sides c.if-sides.false) v c.in-Var-view.ensures.shown b.ok b.open,
      read_both S _ c.in_ok-add_bound_reads.ensures c.deref.ensures.value c.in_ok-add_bound_reads-3.ensures c.deref-2.ensures.value,
    )

pub returns-in_err-meet-clause-clash : goal.returns-in_err-meet-clause-clash
returns-in_err-meet-clause-clash c e =
    let S = value_at c.args.store.now.held in
    let is : c.in_err-meet.field-0.0 ≡ Clash = fault_is _ c.from_residual-in_err-meet.ensures.1 e in
    let v = value_of c.view.result _ c.in_default.not-Var c.view.ensures.shown in
    let w = value_of c.view-2.result _ c.in_default-view.not-Var c.view-2.ensures.shown in
    both_clash S c.args.binds.now (apart c.requires.sides c.if-sides.false) v w (c.in_err-meet.ensures.clash (ap Err is))

pub returns-clause-ok : goal.returns-clause-ok
returns-clause-ok c =
    let S = value_at c.args.store.now.held in
    let new = c.in_ok-meet.ensures.ok in (
      _,
      both_move S c.args.binds.now (apart c.requires.sides c.if-sides.false) new.1 new.2,
      read_both S _ c.in_ok-add_bound_reads.ensures c.deref.ensures.value c.in_ok-add_bound_reads-3.ensures c.deref-2.ensures.value,
    )
