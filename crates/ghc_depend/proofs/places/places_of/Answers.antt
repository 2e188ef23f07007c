use Rattle.ghc_depend.proofs.Words.{◌++◌, ◌∷◌, [], get_or, refl, sym, ap, ◌∙◌, subst, inl, inr, arith, take_all, slice_get-get_or, In}
use Rattle.ghc_depend.proofs.Causes.{at_split}
use Rattle.ghc_depend.proofs.OrderWalks.{first_unkept, next_of_kept, is_wrong}
use Rattle.ghc_depend.proofs.places.places_of.Goals as goal

pub returns-in-Ok-false-clause-fault : goal.returns-in-Ok-false-clause-fault
returns-in-Ok-false-clause-fault c =
    let order = c.args.order.now in
    let i = c.loop-number.number-index in
    let n = get_or order i 0 in
    let at = slice_get-get_or order i 0 c.loop-number-test.true in
    let wrong = is_wrong c.args.records.now.held order i n at c.loop-number.invariant.kept (elim (c.in-Ok-false.ensures.wrong c.in-Ok-false.field-0-test) [
      | inl none ↦ inl none
      | inr there ↦ inr (rw c.loop-number.invariant.numbers at there)
    ]) in
    inr (n, refl, wrong)

pub returns-in-Ok-false-clause-first : goal.returns-in-Ok-false-clause-first
returns-in-Ok-false-clause-first c s rest begins none = grind (arith, first_unkept, slice_get-get_or)

pub returns-in-Err-clause-first : goal.returns-in-Err-clause-first
returns-in-Err-clause-first c s rest begins none = grind (arith, first_unkept, slice_get-get_or)

pub loop-number-preserved : goal.loop-number-preserved
loop-number-preserved c =
    let order = c.args.order.now in
    let i = c.loop-number.number-index in
    let n = get_or order i 0 in
    let at = slice_get-get_or order i 0 c.loop-number-test.true in
    let so_far = c.loop-number.invariant.numbers in
    let yes = c.in-Ok-true.field-0-test in
    record {
      numbers = c.in-Ok-true.ensures.keys yes ∙ ap (λ l. l ++ n ∷ []) so_far ∙ sym (at_split order i n at).2;
      kept = next_of_kept c.args.records.now.held order i n at c.loop-number.invariant.kept (c.in-Ok-true.ensures.kept yes) (λ j. c.in-Ok-true.ensures.new yes (subst (In n) (sym so_far) j));
    }

pub returns-clause-kept : goal.returns-clause-kept
returns-clause-kept c = rw (take_all c.loop-number.number-index c.args.order.now (omega (arith, c.loop-number-test.false))) at c.loop-number.invariant.kept

pub returns-clause-first : goal.returns-clause-first
returns-clause-first c s rest begins none =
    let kept = rw (take_all c.loop-number.number-index c.args.order.now (omega (arith, c.loop-number-test.false))) at c.loop-number.invariant.kept in
    absurd (none (kept.0 s (rw begins (inl refl))))
