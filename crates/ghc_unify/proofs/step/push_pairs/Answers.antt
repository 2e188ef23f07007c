use Rattle.ghc_unify.proofs.Words.{[], ◌∷◌, arith, refl, ap, ◌∙◌, reverse}
use Rattle.ghc_unify.proofs.Stacks.{pairs_end, pairs_more, reverse_push}
use Rattle.ghc_unify.proofs.step.push_pairs.Goals as goal

pub loop-index-init : goal.loop-index-init
loop-index-init c = (omega arith, ([], pairs_end c.args.lefts.now c.args.rights.now c.requires, refl))

pub loop-index-preserved : goal.loop-index-preserved
loop-index-preserved c =
    let old = c.loop-index.invariant.1 in (
      omega (arith, c.loop-index.invariant.0),
      (
        (c.in_ok-share.field-0, c.in_ok-share-2.field-0) ∷ old.0,
        pairs_more c.args.lefts.now c.args.rights.now c.loop-index.index c.in_ok-share.field-0 c.in_ok-share-2.field-0 _ _ old.0 (omega arith) c.loop-index.invariant.0 c.requires
            (c.in_ok-share.ensures ∙ c.index-lefts-index.is) (c.in_ok-share-2.ensures ∙ c.index-rights-index.is) old.1,
        ap reverse c.in_ok-push.ensures.items ∙ reverse_push c.loop-index.equations.items (c.in_ok-share.field-0, c.in_ok-share-2.field-0) ∙ ap (λ l. (c.in_ok-share.field-0, c.in_ok-share-2.field-0) ∷ l) old.2,
      ),
    )
