use Rattle.ghc_trace.proofs.Words.{◌≡◌, ◌+◌, [], ◌∷◌, ◌++◌, List, get_or, take, sym, subst, arith, take_more, take_all, VarName, value_at}
use Rattle.ghc_trace.proofs.Ancestors.{GainsAll, gains_more, gains_none, gains_of_unbound, gains_of_value}
use Rattle.ghc_trace.proofs.backward.add_as_parent.Goals as goal

pub returns-in_default : goal.returns-in_default
returns-in_default c = gains_of_unbound (value_at c.args.store.now.held) c.args.parents.now c.args.parent (sym c.in_default.ensures)

pub loop-child-init : goal.loop-child-init
loop-child-init c = gains_none c.args.parents.now c.args.parent

pub loop-child-preserved : goal.loop-child-preserved
loop-child-preserved c =
    let items = c.members-child-items.result.now in
    let i = c.loop-child.child-index in
    let none : VarName = record { step = 0; place = 0 } in
    let x = get_or items i none in
    let more : take (i + 1) items ≡ take i items ++ x ∷ [] = take_more items i none c.loop-child-test.true in
    subst (λ (l : List VarName). GainsAll c.args.parents.now c.add_parent.new.parents l c.args.parent) (sym more)
    (gains_more c.args.parents.now c.loop-child.parents c.add_parent.new.parents (take i items) x c.args.parent c.loop-child.invariant c.in_ok-add_parent.ensures)

pub returns : goal.returns
returns c =
    let items = c.members-child-items.result.now in
    let all = subst (λ (l : List VarName). GainsAll c.args.parents.now c.loop-child.parents l c.args.parent) (take_all c.loop-child.child-index items (omega (arith, c.loop-child-test.false))) c.loop-child.invariant in
    gains_of_value (value_at c.args.store.now.held) c.args.parents.now c.loop-child.parents items c.args.parent c.in-Some.value.now c.in_ok-children.children (sym c.in-Some.ensures)
    c.members-child-items.ensures.all c.in_ok-children.ensures all
