use Rattle.ghc_trace.proofs.Words.{◌≡◌, ◌+◌, [], ◌∷◌, ◌++◌, List, get_or, take, Some, sym, ap, ◌∙◌, subst, arith, take_more, take_all, option_copied, VarName, StoreValue, value_at}
use Rattle.ghc_trace.specs.inner.PartsCode.{BindsAlone}
use Rattle.ghc_trace.proofs.PartFinding.{binds_none, binds_nothing, binds_one}
use Rattle.ghc_trace.proofs.call_given.bindings_of.Goals.{in-Some+in_ok-share+in_ok-insert, in_default}
use Rattle.ghc_trace.proofs.call_given.bindings_of.Goals as goal

pub loop-x-init : goal.loop-x-init
loop-x-init c = let S = value_at c.args.store.now.held in subst (λ (b : StoreValue). BindsAlone [] S (value_at b)) (sym c.new-binds.ensures) (binds_nothing S)

pub loop-x-preserved : goal.loop-x-preserved
loop-x-preserved c =
    let S = value_at c.args.store.now.held in
    let items = c.args.xs.now in
    let i = c.loop-x.x-index in
    let none : VarName = record { step = 0; place = 0 } in
    let y = get_or items i none in
    let binds = c.loop-x.binds in
    let more : take (i + 1) items ≡ take i items ++ y ∷ [] = take_more items i none c.loop-x-test.true in
    elim c.match-get.branch [
      | in-Some+in_ok-share+in_ok-insert w ↦ rw w.binds-is (subst (λ (l : List VarName). BindsAlone l S (value_at w.insert.new.self)) (sym more)
          (subst (λ (b : StoreValue). BindsAlone (take i items ++ y ∷ []) S (value_at b)) (sym w.in_ok-insert.ensures.ok)
          (binds_one S (take i items) y binds c.loop-x.invariant w.in_ok-share.field-0 (sym c.get.ensures ∙ ap option_copied w.in-Some.is ∙ ap Some (sym w.in_ok-share.ensures)))))
      | in_default w ↦ rw w.binds-is (subst (λ (l : List VarName). BindsAlone l S (value_at binds)) (sym more)
          (binds_none S (take i items) y binds c.loop-x.invariant (sym c.get.ensures ∙ ap option_copied w.in_default.is)))
    ]

pub returns : goal.returns
returns c =
    let items = c.args.xs.now in
    subst (λ (l : List VarName). BindsAlone l (value_at c.args.store.now.held) (value_at c.loop-x.binds)) (take_all c.loop-x.x-index items (omega (arith, c.loop-x-test.false))) c.loop-x.invariant
