use Rattle.ghc_trace.proofs.Words.{◌≡◌, ◌+◌, [], ◌∷◌, ◌++◌, List, get_or, take, None, sym, subst, arith, take_more, take_all, VarName, value_at}
use Rattle.ghc_trace.proofs.AskedAbout.{GainsUnderList, under_all, under_bound, under_more, under_none}
use Rattle.ghc_trace.proofs.asked_about.add_under.Goals.{then-is_none+in_ok-add_each, else-is_none}
use Rattle.ghc_trace.proofs.asked_about.add_under.Goals as goal

pub loop-z-init : goal.loop-z-init
loop-z-init c = under_none (value_at c.args.store.now.held) c.args.awaited.now c.args.waits.now

pub loop-z-preserved : goal.loop-z-preserved
loop-z-preserved c =
    let S = value_at c.args.store.now.held in
    let ys = c.args.awaited.now in
    let items = c.members-z-items.result.now in
    let i = c.loop-z.z-index in
    let none : VarName = record { step = 0; place = 0 } in
    let z = get_or items i none in
    let old = c.args.waits.now in
    let now = c.loop-z.waits in
    let more : take (i + 1) items ≡ take i items ++ z ∷ [] = take_more items i none c.loop-z-test.true in
    elim c.if-is_none.branch [
      | then-is_none+in_ok-add_each w ↦
          let free : S z ≡ None = grind (arith, c.get.ensures, c.is_none.ensures, w.if-is_none.true) in
          rw w.waits-is (subst (λ (l : List VarName). GainsUnderList S old w.add_each.new.waits l ys) (sym more)
          (under_more S ys old now w.add_each.new.waits (take i items) z free c.loop-z.invariant w.in_ok-add_each.ensures))
      | else-is_none w ↦ rw w.waits-is (subst (λ (l : List VarName). GainsUnderList S old now l ys) (sym more)
          (under_bound S ys old now (take i items) z (λ free. grind (arith, free, c.get.ensures, c.is_none.ensures, w.if-is_none.false)) c.loop-z.invariant))
    ]

pub returns : goal.returns
returns c =
    let S = value_at c.args.store.now.held in
    let items = c.members-z-items.result.now in
    under_all S c.args.awaited.now c.args.waits.now c.loop-z.waits items c.args.reached.now c.members-z-items.ensures.all
    (subst (λ (l : List VarName). GainsUnderList S c.args.waits.now c.loop-z.waits l c.args.awaited.now) (take_all c.loop-z.z-index items (omega (arith, c.loop-z-test.false))) c.loop-z.invariant)
