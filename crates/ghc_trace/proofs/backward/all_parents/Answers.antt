use Rattle.ghc_trace.proofs.Words.{◌≡◌, List, sym, ap, ◌∙◌, subst, In, Record, StoreValue, VarName, value_at, numbers}
use Rattle.ghc_core.proofs.Redone.{if_ok}
use Rattle.ghc_trace.specs.inner.Backward.{AreParentsAmong}
use Rattle.ghc_trace.proofs.Ancestors.{all_listed}
use Rattle.ghc_trace.proofs.AllParents.{bound_listed, number_kept}
use Rattle.ghc_trace.proofs.backward.all_parents.Goals as goal

pub bound_by-requires : goal.bound_by-requires
bound_by-requires c n i = number_kept c.records-records.result.now.held n (subst (In n) (c.as_slice.ensures.value ∙ c.in_ok-steps.ensures) i)

pub returns : goal.returns
returns c =
    let w = c.args.core.now.world in
    let among = c.as_slice-2.result.now in
    let kept = c.records-records.result.now.held in
    let named = bound_listed w c.stands.ensures.replay kept c.as_slice.result.now c.in_ok-bound.bound.items c.records-records.ensures (c.as_slice.ensures.value ∙ c.in_ok-steps.ensures) c.in_ok-bound.ensures in
    if_ok c.parents_among.result c.parents_among.ensures (λ m are.
    all_listed (value_at w.state.store) among m (λ v u e. subst (In v) (sym c.as_slice-2.ensures.value) (named v u e)) (subst (λ (s : StoreValue). AreParentsAmong (value_at s) among m) c.store.ensures are))
