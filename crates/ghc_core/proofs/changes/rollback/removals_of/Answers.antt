use Rattle.ghc_core.proofs.Words.{◌≡◌, ◌++◌, [], ◌∷◌, sym, ap, ◌∙◌, subst, inl, inr, take_more, In, in_get, in_more, Record, numbers, numbers_append, at_some}
use Rattle.ghc_core.proofs.RolledBack.{found_there}
use Rattle.ghc_core.proofs.changes.rollback.removals_of.Goals as goal

pub unwrap-kept-requires : goal.unwrap-kept-requires
unwrap-kept-requires c =
    found_there c.get.result c.args.records.now.held _ (c.requires.kept _ (in_get c.args.ns.now c.loop-number.number-index 0 c.loop-number-test.true)) c.get.ensures.none

pub loop-number-preserved : goal.loop-number-preserved
loop-number-preserved c =
    let before = c.loop-number.invariant in
    let removals = c.loop-number.removals.items in
    let ns = c.args.ns.now in
    let i = c.loop-number.number-index in
    let r = c.in_ok-of.field-0 in
    let same : r ≡ c.unwrap-kept.result.now = c.in_ok-of.ensures in
    let found = at_some _ c.get.result c.unwrap-kept.result c.unwrap-kept.ensures c.get.ensures.found in
    let last = ap (λ (q : Record). q.number) same ∙ found.1 in (
      ap numbers c.in_ok-push.ensures.items ∙ numbers_append removals (r ∷ []) ∙ (λ j. before.0 j ++ last j ∷ []) ∙ sym (take_more ns i 0 c.loop-number-test.true),
      λ s k. elim (in_more removals r s (subst (In s) c.in_ok-push.ensures.items k)) [
        | inl j ↦ before.1 s j
        | inr e ↦ subst (λ (q : Record). In q c.args.records.now.held) (sym (e ∙ same)) found.0
      ],
    )
