use Rattle.ghc_depend.proofs.Words.{refl, subst₂, inl, inr, IsOrderOf, IsUnlawful, wrong, missing, too_early, arith}
use Rattle.ghc_depend.proofs.lawful_order.lawful.Goals as goal

pub returns-in-Err-clause-fault : goal.returns-in-Err-clause-fault
returns-in-Err-clause-fault c = elim c.in-Err.ensures.fault [ inl memory ↦ inl memory | inr w ↦ inr (w.0, w.0, w.1, wrong w.2) ]

pub returns-in-Some-clause-fault : goal.returns-in-Some-clause-fault
returns-in-Some-clause-fault c = grind (arith, missing)

pub returns-in-Some-clause-first : goal.returns-in-Some-clause-first
returns-in-Some-clause-first c s rest begins none = let clash = c.in-Ok.ensures.first s rest begins none in cc

pub first_too_early-requires-clause-of_kept : goal.first_too_early-requires-clause-of_kept
first_too_early-requires-clause-of_kept c = (c.in-Ok.ensures.kept, λ n i. rw c.in-Ok.ensures.places at c.in_default.ensures.all n i)

pub returns-in-Some-first_too_early-clause-fault : goal.returns-in-Some-first_too_early-clause-fault
returns-in-Some-first_too_early-clause-fault c =
    let kept = c.args.records.now.held in
    let order = c.args.order.now in
    let f = c.in-Some-first_too_early.ensures.found in
    let whole : IsOrderOf kept order = (c.in-Ok.ensures.kept, λ n i. rw c.in-Ok.ensures.places at c.in_default.ensures.all n i) in
    inr (c.in-Some-first_too_early.earlier, c.in-Some-first_too_early.later, refl, subst₂ (IsUnlawful kept order) f.2 f.3 (too_early whole f.4))

pub returns-in-Some-first_too_early-clause-first : goal.returns-in-Some-first_too_early-clause-first
returns-in-Some-first_too_early-clause-first c s rest begins none = let clash = c.in-Ok.ensures.first s rest begins none in cc

pub returns-clause-ok : goal.returns-clause-ok
returns-clause-ok c = ((c.in-Ok.ensures.kept, λ n i. rw c.in-Ok.ensures.places at c.in_default.ensures.all n i), c.in-None.ensures.none)

pub returns-clause-first : goal.returns-clause-first
returns-clause-first c s rest begins none = let clash = c.in-Ok.ensures.first s rest begins none in cc
