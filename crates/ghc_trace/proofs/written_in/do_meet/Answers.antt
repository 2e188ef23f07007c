use Rattle.ghc_trace.proofs.Words.{◌≡◌, ◌+◌, [], ◌∷◌, ◌++◌, true, false, IsTrue, List, get_or, take, refl, sym, ◌∙◌, subst, arith, take_more, take_all, in_get, has_member, is_member, VarName}
use Rattle.std.specs.FinSet as set
use Rattle.ghc_trace.proofs.WrittenIn.{NoneOf, none_more, none_yet}
use Rattle.ghc_trace.proofs.written_in.do_meet.Goals as goal

pub loop-x-init : goal.loop-x-init
loop-x-init c = none_yet (λ (x : VarName). IsTrue (set.contains c.args.xs.now x))

pub loop-x-preserved : goal.loop-x-preserved
loop-x-preserved c =
    let P : VarName → Type 0 = λ x. IsTrue (set.contains c.args.xs.now x) in
    let items = c.members-x-items.result.now in
    let i = c.loop-x.x-index in
    let none : VarName = record { step = 0; place = 0 } in
    let x = get_or items i none in
    let more : take (i + 1) items ≡ take i items ++ x ∷ [] = take_more items i none c.loop-x-test.true in
    subst (NoneOf P) (sym more) (none_more P (take i items) x (λ t. let clash : false ≡ true = sym c.if-contains.false ∙ c.contains.ensures ∙ t in cc) c.loop-x.invariant)

pub returns-then-contains : goal.returns-then-contains
returns-then-contains c =
    let items = c.members-x-items.result.now in
    let i = c.loop-x.x-index in
    let none : VarName = record { step = 0; place = 0 } in
    let x = get_or items i none in
    (λ _. (x, has_member c.args.written.now items c.members-x-items.ensures.all x (in_get items i none c.loop-x-test.true), sym c.contains.ensures ∙ c.if-contains.true), λ _. refl)

pub returns : goal.returns
returns c =
    let P : VarName → Type 0 = λ x. IsTrue (set.contains c.args.xs.now x) in
    let items = c.members-x-items.result.now in
    let all = subst (NoneOf P) (take_all c.loop-x.x-index items (omega (arith, c.loop-x-test.false))) c.loop-x.invariant in
    (λ h. let clash : false ≡ true = h in absurd (cc), λ q. absurd (all q.0 (is_member c.args.written.now items c.members-x-items.ensures.all q.0 q.1) q.2))
