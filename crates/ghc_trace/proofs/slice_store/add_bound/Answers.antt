use Rattle.ghc_trace.proofs.Words.{◌≡◌, ◌++◌, [], ◌∷◌, take, keys_of, sym, ap, ◌∙◌, subst, inl, inr, append_assoc, append-nil, take_all, In, in_either, in_left, in_right}
use Rattle.ghc_trace.proofs.SliceStore.{bound_names, keys_more}
use Rattle.ghc_trace.proofs.slice_store.add_bound.Goals as goal

pub loop-x-init : goal.loop-x-init
loop-x-init c = sym (append-nil c.args.bound.now.items)

pub loop-x-preserved : goal.loop-x-preserved
loop-x-preserved c =
    let es = c.entries-x-items.result.now in
    let b = c.loop-x-item.result in
    let i = c.loop-x.x-index in
    let old = c.args.bound.now.items in
    c.in_ok-push.ensures.items ∙ ap (λ l. l ++ b.0 ∷ []) c.loop-x.invariant ∙ append_assoc old (keys_of (take i es)) (b.0 ∷ []) ∙ ap (λ l. old ++ l) (sym (keys_more es i b c.loop-x-test.true c.loop-x-item.is))

pub returns : goal.returns
returns c x =
    let es = c.entries-x-items.result.now in
    let r = c.args.step.now in
    let old = c.args.bound.now.items in
    let named = bound_names r es (c.entries-x-items.ensures.all ∙ c.binds.ensures ∙ ap (λ e. e.binds) c.effect.ensures) x in
    let full : c.loop-x.bound.items ≡ old ++ keys_of es = c.loop-x.invariant ∙ ap (λ l. old ++ keys_of l) (take_all c.loop-x.x-index es c.loop-x-test.false) in (
      λ i. elim (in_either old (keys_of es) x (subst (In x) full i)) [ inl j ↦ inl j | inr j ↦ inr (named.0 j) ],
      λ o. subst (In x) (sym full) (elim o [ inl j ↦ in_left old (keys_of es) x j | inr b ↦ in_right old (keys_of es) x (named.1 b) ]),
    )
