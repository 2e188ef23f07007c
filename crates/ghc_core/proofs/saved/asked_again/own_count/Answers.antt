use Rattle.ghc_core.proofs.Words.{◌≡◌, true, false, sym, ap, ◌∙◌, made_from}
use Rattle.ghc_core.proofs.AskedAgain.{own, own_more, own_other, own_never}
use Rattle.ghc_core.proofs.saved.asked_again.own_count.Goals as goal
use Rattle.ghc_core.proofs.saved.asked_again.own_count.Goals.{then-x-number+else-not-is_next_place, else-x-number}

pub returns-then-not-is_next_place-clause-none : goal.returns-then-not-is_next_place-clause-none
returns-then-not-is_next_place-clause-none c k e =
    own_never c.args.number c.variables-x-items.result.now c.loop-x.x-index (record { step = 0; place = 0 }) c.loop-x-test.true c.loop-x.count c.loop-x.invariant k c.if-x-number.true
    (λ next. let clash : true ≡ false = sym (c.is_next_place.ensures.1 next) ∙ c.if-not-is_next_place.true in cc)
    (ap (own c.args.number) c.variables-x-items.ensures ∙ e)

pub loop-x-preserved : goal.loop-x-preserved
loop-x-preserved c =
    let xs = c.variables-x-items.result.now in
    let n = c.args.number in
    elim c.if-x-number.branch [
      | then-x-number+else-not-is_next_place w ↦
          own_more n xs c.loop-x.x-index (record { step = 0; place = 0 }) c.loop-x-test.true c.loop-x.count c.loop-x.invariant w.if-x-number.true (w.is_next_place.ensures.0 w.if-not-is_next_place.false) ∙ ap (made_from n 1) (sym w.count-is)
      | else-x-number w ↦
          own_other n xs c.loop-x.x-index (record { step = 0; place = 0 }) c.loop-x-test.true c.loop-x.count c.loop-x.invariant w.if-x-number.false ∙ ap (made_from n 1) (sym w.count-is)
    ]
