use Rattle.ghc_flat.proofs.Words.{false, refl, sym, ap, subst, arith, not_both, depth_of, leaf_variables, AreAmong}
use Rattle.ghc_flat.proofs.Tests.{both_among, left_among, right_among}
use Rattle.ghc_flat.proofs.counting.+are_among.Goals as goal

pub returns-in-Leaf : goal.returns-in-Leaf
returns-in-Leaf t c = (
  λ yes. c.loop-term.invariant.1.0 (subst (λ e. AreAmong c.args.count (leaf_variables e)) c.in-Leaf.ensures (c.is_leaf_among.ensures.0 yes)),
  λ a. c.is_leaf_among.ensures.1 (subst (λ e. AreAmong c.args.count (leaf_variables e)) (sym c.in-Leaf.ensures) (c.loop-term.invariant.1.1 a)),
)

pub returns-then-not-are_among : goal.returns-then-not-are_among
returns-then-not-are_among t c = (
  λ yes. absurd (not_both false refl yes),
  λ a.
      let sides = subst (λ e. AreAmong c.args.count (leaf_variables e)) (sym c.in-Operation.ensures) (c.loop-term.invariant.1.1 a) in
      absurd (not_both c.are_among.result c.if-not-are_among.true (c.are_among.ensures.1 (right_among c.args.count (leaf_variables c.in-Operation.left.now) (leaf_variables c.in-Operation.right.now) sides))),
)

pub loop-term-preserved : goal.loop-term-preserved
loop-term-preserved t c =
    let at = ap depth_of c.in-Operation.ensures in
    let l = leaf_variables c.in-Operation.left.now in
    let r = leaf_variables c.in-Operation.right.now in
    let right : AreAmong c.args.count r = c.are_among.ensures.0 c.if-not-are_among.false in (
      omega (arith, at, c.loop-term.invariant.0),
      (
        λ left. c.loop-term.invariant.1.0 (subst (λ e. AreAmong c.args.count (leaf_variables e)) c.in-Operation.ensures (both_among c.args.count l r left right)),
        λ a. left_among c.args.count l r (subst (λ e. AreAmong c.args.count (leaf_variables e)) (sym c.in-Operation.ensures) (c.loop-term.invariant.1.1 a)),
      ),
    )
