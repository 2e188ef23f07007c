use Rattle.ghc_match.proofs.Words.{◌≡◌, ◌∙◌, ◌++◌, ap, arith, member, no_member, leaf_variables}
use Rattle.std.specs.FinSet as set
use Rattle.ghc_match.proofs.evaluation.evaluate.Goals as goal

pub returns-then-len-gt0 : goal.returns-then-len-gt0
returns-then-len-gt0 c =
    let names = c.deref.ensures.value ∙ c.in_ok-push_leaves.ensures ∙ ap (λ l. l ++ leaf_variables c.args.expression.now) c.new-names.ensures.items in
    let all = rw names at c.in_ok-wanted.ensures in
    let some = member c.in_ok-wanted.wanted (omega (arith, c.len.ensures, c.if-len-gt0.true)) in
    (all, (some.0, (all some.0).0 some.1))

pub returns : goal.returns
returns c =
    let names = c.deref.ensures.value ∙ c.in_ok-push_leaves.ensures ∙ ap (λ l. l ++ leaf_variables c.args.expression.now) c.new-names.ensures.items in
    let all = rw names at c.in_ok-wanted.ensures in
    let none : set.len c.in_ok-wanted.wanted ≡ 0 = omega (arith, c.len.ensures, c.if-len-gt0.false) in
    (λ x w. no_member c.in_ok-wanted.wanted none x ((all x).1 w), rw c.in-None.is at c.in_ok-integer.ensures)
