use Rattle.ghc_trace.proofs.Words.{◌≡◌, ◌↔◌, ◌+◌, [], ◌∷◌, ◌++◌, List, get_or, take, sym, subst, arith, take_more, take_all, In, VarName, insert_key, name_cmp}
use Rattle.ghc_trace.proofs.WhyNotTold.{named_all, put_by_name}
use Rattle.ghc_trace.proofs.lost.by_name.Goals as goal

pub loop-x-init : goal.loop-x-init
loop-x-init c p = subst (λ (ks : List VarName). In p ks ↔ In p []) (sym c.new-names.ensures.empty) (λ i. i, λ i. i)

pub loop-x-preserved : goal.loop-x-preserved
loop-x-preserved c p =
    let items = c.members-x-items.result.now in
    let i = c.loop-x.x-index in
    let none : VarName = record { step = 0; place = 0 } in
    let x = get_or items i none in
    let more : take (i + 1) items ≡ take i items ++ x ∷ [] = take_more items i none c.loop-x-test.true in
    subst (λ (l : List VarName). In p c.insert.new.self.keys ↔ In p l) (sym more)
    (subst (λ (ks : List VarName). In p ks ↔ In p (take i items ++ x ∷ [])) (sym c.in_ok-insert.ensures.keys) (put_by_name c.loop-x.names.keys (take i items) x c.loop-x.invariant p))

pub returns : goal.returns
returns c =
    let items = c.members-x-items.result.now in
    named_all c.loop-x.names.keys items c.args.xs.now c.members-x-items.ensures.all
    (subst (λ (l : List VarName). (p : VarName) → In p c.loop-x.names.keys ↔ In p l) (take_all c.loop-x.x-index items (omega (arith, c.loop-x-test.false))) c.loop-x.invariant) c.len-count.ensures.ordered
