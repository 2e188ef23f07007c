use Rattle.ghc_trace.proofs.Words.{◌≡◌, ◌+◌, [], ◌∷◌, ◌++◌, List, get_or, take, sym, subst, arith, take_more, take_all, In, VarName}
use Rattle.ghc_trace.specs.Causes.{AreBindersOf}
use Rattle.ghc_trace.proofs.Giving.{binders_still, binders_more}
use Rattle.ghc_trace.proofs.given.binders_of.Goals.{in-Some+in_ok-push, in_default}
use Rattle.ghc_trace.proofs.given.binders_of.Goals as goal

pub loop-x-preserved : goal.loop-x-preserved
loop-x-preserved c =
    let kept = c.args.records.now.held in
    let items = c.args.xs.now in
    let i = c.loop-x.x-index in
    let none : VarName = record { step = 0; place = 0 } in
    let x = get_or items i none in
    let ns = c.loop-x.binders.items in
    let more : take (i + 1) items ≡ take i items ++ x ∷ [] = take_more items i none c.loop-x-test.true in
    elim c.match-binder_of.branch [
      | in-Some+in_ok-push w ↦ rw w.binders-is (subst (λ (l : List VarName). AreBindersOf kept (λ z. In z l) w.push.new.self.items) (sym more)
          (subst (λ l. AreBindersOf kept (λ z. In z (take i items ++ x ∷ [])) l) (sym w.in_ok-push.ensures.items)
          (binders_more kept (take i items) x ns c.loop-x.invariant c.binder_of.result c.binder_of.ensures w.in-Some.step w.in-Some.is)))
      | in_default w ↦ rw w.binders-is (subst (λ (l : List VarName). AreBindersOf kept (λ z. In z l) ns) (sym more) (binders_still kept (take i items) x ns c.loop-x.invariant c.binder_of.result c.binder_of.ensures w.in_default.is))
    ]

pub returns : goal.returns
returns c =
    let items = c.args.xs.now in
    let ns = c.loop-x.binders.items in
    subst (λ (l : List VarName). AreBindersOf c.args.records.now.held (λ z. In z l) ns) (take_all c.loop-x.x-index items (omega (arith, c.loop-x-test.false))) c.loop-x.invariant
