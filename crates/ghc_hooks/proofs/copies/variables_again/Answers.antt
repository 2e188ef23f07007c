use Rattle.ghc_hooks.proofs.Words.{arith, get_or, sym, subst, take_all, VarName, In, holds_nothing, one_inserted, same_held, has_member, is_member}
use Rattle.ghc_hooks.proofs.LookingAll.{so_far, earlier, latest}
use Rattle.ghc_hooks.proofs.copies.variables_again.Goals as goal

pub loop-x-init : goal.loop-x-init
loop-x-init c y = (
  λ h. absurd (holds_nothing _ c.new-again.ensures y h),
  λ i. absurd i,
)

pub loop-x-preserved : goal.loop-x-preserved
loop-x-preserved c y =
    let none : VarName = record { step = 0; place = 0 } in
    let xs = c.members-x-items.result.now in
    let i = c.loop-x.x-index in
    let put = rw (← c.in_ok-insert.ensures.ok) at (one_inserted c.loop-x.again (get_or xs i none) y) in
    let h = c.loop-x-test.true in
    grind (arith, put, c.loop-x.invariant y, so_far xs i none h y, earlier xs i none h y, latest xs i none h y)

pub returns : goal.returns
returns c =
    let xs = c.members-x-items.result.now in
    let all = take_all c.loop-x.x-index xs c.loop-x-test.false in
    same_held c.loop-x.again c.args.xs.now
    (λ y h. has_member c.args.xs.now xs c.members-x-items.ensures.all y (subst (In y) all ((c.loop-x.invariant y).0 h)))
    (λ y h. (c.loop-x.invariant y).1 (subst (In y) (sym all) (is_member c.args.xs.now xs c.members-x-items.ensures.all y h)))
