use Rattle.ghc_trace.proofs.Words.{◌≡◌, ◌+◌, [], ◌∷◌, ◌++◌, List, get_or, take, sym, subst, arith, take_more, take_all, VarName}
use Rattle.ghc_trace.proofs.AskedAbout.{GainsList, list_all, list_more, list_none}
use Rattle.ghc_trace.proofs.asked_about.add_each.Goals as goal

pub loop-y-init : goal.loop-y-init
loop-y-init c = list_none c.args.waits.now c.args.under

pub loop-y-preserved : goal.loop-y-preserved
loop-y-preserved c =
    let items = c.members-y-items.result.now in
    let i = c.loop-y.y-index in
    let none : VarName = record { step = 0; place = 0 } in
    let y = get_or items i none in
    let more : take (i + 1) items ≡ take i items ++ y ∷ [] = take_more items i none c.loop-y-test.true in
    subst (λ (l : List VarName). GainsList c.args.waits.now c.add_parent.new.parents c.args.under l) (sym more)
    (list_more c.args.waits.now c.loop-y.waits c.add_parent.new.parents c.args.under (take i items) y c.loop-y.invariant c.in_ok-add_parent.ensures)

pub returns : goal.returns
returns c =
    let items = c.members-y-items.result.now in
    list_all c.args.waits.now c.loop-y.waits c.args.under items c.args.awaited.now c.members-y-items.ensures.all
    (subst (λ (l : List VarName). GainsList c.args.waits.now c.loop-y.waits c.args.under l) (take_all c.loop-y.y-index items (omega (arith, c.loop-y-test.false))) c.loop-y.invariant)
