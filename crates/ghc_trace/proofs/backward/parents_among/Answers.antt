use Rattle.ghc_trace.proofs.Words.{◌≡◌, ◌+◌, [], ◌∷◌, ◌++◌, List, get_or, take, sym, subst, arith, take_more, take_all, VarName, value_at}
use Rattle.ghc_trace.specs.inner.Backward.{AreParentsAmong}
use Rattle.ghc_trace.proofs.Ancestors.{parents_of_more, parents_of_none}
use Rattle.ghc_trace.proofs.backward.parents_among.Goals as goal

pub loop-v-init : goal.loop-v-init
loop-v-init c = parents_of_none (value_at c.args.store.now.held) c.new-parents.result c.new-parents.ensures.empty

pub loop-v-preserved : goal.loop-v-preserved
loop-v-preserved c =
    let S = value_at c.args.store.now.held in
    let items = c.args.among.now in
    let i = c.loop-v.v-index in
    let none : VarName = record { step = 0; place = 0 } in
    let x = get_or items i none in
    let more : take (i + 1) items ≡ take i items ++ x ∷ [] = take_more items i none c.loop-v-test.true in
    subst (λ (l : List VarName). AreParentsAmong S l c.add_as_parent.new.parents) (sym more)
    (parents_of_more S (take i items) x c.loop-v.parents c.add_as_parent.new.parents c.loop-v.invariant c.in_ok-add_as_parent.ensures)

pub returns : goal.returns
returns c =
    let items = c.args.among.now in
    subst (λ (l : List VarName). AreParentsAmong (value_at c.args.store.now.held) l c.loop-v.parents) (take_all c.loop-v.v-index items (omega (arith, c.loop-v-test.false))) c.loop-v.invariant
