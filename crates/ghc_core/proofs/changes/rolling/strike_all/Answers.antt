use Rattle.ghc_core.proofs.Words.{◌≡◌, ◌-◌, drop, Some, slice_get, length, sym, ap, ◌∙◌, subst, arith, slice_get-get_or, In, in_at, Picks, Record}
use Rattle.std.proofs.lemmas.List.{drop_all}
use Rattle.ghc_core.proofs.RolledBack.{struck_none, struck_back}
use Rattle.ghc_core.proofs.changes.rolling.strike_all.Goals as goal

pub loop-place-init : goal.loop-place-init
loop-place-init c =
    let xs = c.args.removals.now in
    (omega arith, subst (λ l. Picks (λ s. ¬ In s l) c.args.records.now.held c.args.records.now.held) (sym (drop_all (length xs) xs (omega arith))) (struck_none c.args.records.now.held))

pub loop-place-preserved-in-loop-place : goal.loop-place-preserved-in-loop-place
loop-place-preserved-in-loop-place c =
    let xs = c.args.removals.now in
    let p = c.loop-place.place in
    let within = c.loop-place.invariant.0 in
    let r = c.index-removals-place.result in
    let number : c.number.result ≡ r.number = c.number.ensures ∙ ap (λ (z : Record). z.number) c.step.ensures in
    let at : slice_get xs (p - 1) ≡ Some r = slice_get-get_or xs (p - 1) r (omega (arith, within, c.loop-place-test.true)) ∙ ap Some (sym c.index-removals-place.is) in (
      omega (arith, within),
      struck_back xs c.args.records.now.held c.loop-place.records.held c.remove.new.self.held p r (omega (arith, c.loop-place-test.true)) at c.requires.distinct (c.requires.kept r (in_at xs (p - 1) r at)) c.loop-place.invariant.1
          (λ here. c.remove.ensures.rest r here (sym number)),
    )

pub loop-place-preserved : goal.loop-place-preserved
loop-place-preserved c =
    let xs = c.args.removals.now in
    let p = c.loop-place.place in
    let within = c.loop-place.invariant.0 in
    let r = c.index-removals-place.result in
    let number : c.number.result ≡ r.number = c.number.ensures ∙ ap (λ (z : Record). z.number) c.step.ensures in
    let at : slice_get xs (p - 1) ≡ Some r = slice_get-get_or xs (p - 1) r (omega (arith, within, c.loop-place-test.true)) ∙ ap Some (sym c.index-removals-place.is) in (
      omega (arith, within),
      struck_back xs c.args.records.now.held c.loop-place.records.held c.remove.new.self.held p r (omega (arith, c.loop-place-test.true)) at c.requires.distinct (c.requires.kept r (in_at xs (p - 1) r at)) c.loop-place.invariant.1
          (λ here. c.remove.ensures.rest r here (sym number)),
    )

pub returns : goal.returns
returns c =
    let none : c.loop-place.place ≡ 0 = omega (arith, c.loop-place-test.false) in
    subst (λ k. Picks (λ s. ¬ In s (drop k c.args.removals.now)) c.args.records.now.held c.loop-place.records.held) none c.loop-place.invariant.1
