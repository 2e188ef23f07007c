use Rattle.ghc_records.proofs.Words.{◌+◌, get_or, sym, subst, arith, drop_more, made}
use Rattle.ghc_records.proofs.AskingLines.{AreMade, counted, out_of_order, passed}
use Rattle.ghc_records.proofs.text.asking_reading.are_in_order.Goals as goal
use Rattle.ghc_records.proofs.text.asking_reading.are_in_order.Goals.{then-variable-step+else-from-place, else-variable-step}

pub returns-then-from-place : goal.returns-then-from-place
returns-then-from-place c =
    let xs = c.args.variables.now in
    let i = c.loop-variable.variable-index in
    let x = get_or xs i (made 0 0) in (
      λ clash. cc,
      λ k. absurd (out_of_order xs c.args.step i c.loop-variable.place x (drop_more xs i (made 0 0) c.loop-variable-test.true) c.loop-variable.invariant.made (omega (arith, c.if-variable-step.true))
          (λ e. omega (arith, e, c.from.ensures, c.if-from-place.true)) k.0 k.1),
    )

pub loop-variable-preserved : goal.loop-variable-preserved
loop-variable-preserved c =
    let xs = c.args.variables.now in
    let n = c.args.step in
    let i = c.loop-variable.variable-index in
    let p = c.loop-variable.place in
    let x = get_or xs i (made 0 0) in
    let at = drop_more xs i (made 0 0) c.loop-variable-test.true in
    let held = c.loop-variable.invariant in
    elim c.if-variable-step.branch [
      | then-variable-step+else-from-place w ↦ record {
        few = omega (arith, w.place-is, held.few);
        made = subst (AreMade xs n (i + 1)) (sym w.place-is) (counted xs n i p x at held.made (omega (arith, w.if-variable-step.true)) (omega (arith, w.from.ensures, w.if-from-place.false)));
      }
      | else-variable-step w ↦ record {
        few = omega (arith, w.place-is, held.few);
        made = subst (AreMade xs n (i + 1)) (sym w.place-is) (passed xs n i p x at held.made (λ e. omega (arith, e, w.if-variable-step.false)));
      }
    ]
