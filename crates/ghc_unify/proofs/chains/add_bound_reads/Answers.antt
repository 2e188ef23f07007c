use Rattle.ghc_unify.proofs.Words.{◌∙◌, sym, true, false, VarName, value_at}
use Rattle.ghc_unify.proofs.Growth.{union_none, read_next, some_copied}
use Rattle.ghc_unify.proofs.chains.add_bound_reads.Goals as goal
use Rattle.ghc_unify.proofs.chains.add_bound_reads.Goals.{then-is_some+in_ok-insert, else-is_some}

abbrev zero_name : VarName
zero_name = record { step = 0; place = 0 }

pub loop-x-init : goal.loop-x-init
loop-x-init c = union_none c.args.reads.now

pub loop-x-preserved : goal.loop-x-preserved
loop-x-preserved c =
    let next = read_next (value_at c.args.store.now.held) c.args.passed.now c.loop-x.x-index zero_name c.loop-x-test.true in
    let is = some_copied _ _ c.get.ensures ∙ sym c.is_some.ensures in
    elim c.if-is_some.branch [
      | then-is_some+in_ok-insert w ↦ w.reads-is ∙ w.in_ok-insert.ensures.ok ∙ next _ _ true (is ∙ w.if-is_some.true) c.loop-x.invariant
      | else-is_some w ↦ w.reads-is ∙ next _ _ false (is ∙ w.if-is_some.false) c.loop-x.invariant
    ]
