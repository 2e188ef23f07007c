use Rattle.ghc_trace.proofs.Words.{List, sym, subst, VarName, StoreValue, value_at}
use Rattle.ghc_core.proofs.Redone.{if_ok}
use Rattle.ghc_trace.specs.inner.PartsCode.{BindsAlone}
use Rattle.ghc_trace.proofs.SliceStore.{store_left}
use Rattle.ghc_trace.proofs.slice_store.store_after.Goals as goal

pub returns : goal.returns
returns c = if_ok c.store_of.result c.store_of.ensures (λ left alone P query rs t u replay same are again.
    let xs = c.in_ok-bound.bound.items in
    store_left P query c.args.records.now.held rs t u c.args.steps.now xs left.held replay again are c.in_ok-bound.ensures
    (subst (λ (s : StoreValue). BindsAlone xs (value_at s) (value_at left.held)) (sym same)
    (subst (λ (l : List VarName). BindsAlone l (value_at c.args.store.now.held) (value_at left.held)) c.as_slice.ensures.value alone)))
