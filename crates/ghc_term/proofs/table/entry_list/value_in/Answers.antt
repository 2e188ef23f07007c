use Rattle.ghc_term.proofs.Words.{◌+◌, cond, drop, sym, ap, ◌∙◌, Some, drop_all, name_cmp}
use Rattle.std.specs.FinMap as finite
use Rattle.ghc_term.proofs.BindingLists.{next}
use Rattle.ghc_term.proofs.Names.{name_total}
use Rattle.ghc_term.proofs.table.entry_list.value_in.Goals as goal

pub returns-then-eq : goal.returns-then-eq
returns-then-eq c =
    let es = c.args.list.now in
    let e = c.loop-y-item.result in
    sym (finite.get-from_entries name_total es c.args.x ∙ next es c.loop-y.y-index e c.args.x c.loop-y-test.true c.loop-y-item.is c.loop-y.invariant
    ∙ ap (λ b. cond b (Some e.1) (finite.find name_cmp c.args.x (drop (c.loop-y.y-index + 1) es))) (sym c.eq.ensures ∙ c.if-eq.true))

pub loop-y-preserved : goal.loop-y-preserved
loop-y-preserved c =
    let es = c.args.list.now in
    let e = c.loop-y-item.result in
    next es c.loop-y.y-index e c.args.x c.loop-y-test.true c.loop-y-item.is c.loop-y.invariant
    ∙ ap (λ b. cond b (Some e.1) (finite.find name_cmp c.args.x (drop (c.loop-y.y-index + 1) es))) (sym c.eq.ensures ∙ c.if-eq.false)

pub returns : goal.returns
returns c =
    let es = c.args.list.now in
    sym (finite.get-from_entries name_total es c.args.x ∙ c.loop-y.invariant ∙ ap (finite.find name_cmp c.args.x) (drop_all c.loop-y.y-index es c.loop-y-test.false))
