use Rattle.ghc_term.proofs.Words.{◌≡◌, sym, ap, ◌∙◌, length, arith, None, Some, slice_get, goal_cmp}
use Rattle.std.specs.FinMap as finite
use Rattle.ghc_term.proofs.table.goal_map.GoalMap.new.Goals as goal

pub invariant_of-result : goal.invariant_of-result
invariant_of-result g c =
    let names = ap length c.new.ensures.items in
    let values = ap length c.new-2.ensures.items in
    let none = c.new.ensures.len in (
      (
        values ∙ sym names,
        omega (arith, names),
        λ h i. (
          λ e. let clash : None ≡ Some i = sym (ap (λ m. finite.get m h) c.new-3.ensures ∙ finite.get-empty goal_cmp h) ∙ e in cc,
          λ e. let clash : None ≡ Some h = sym (ap (λ l. slice_get l i) c.new.ensures.items) ∙ e in cc,
        ),
      ),
      (omega (arith, none), omega (arith, none), omega arith, omega (arith, none)),
    )
