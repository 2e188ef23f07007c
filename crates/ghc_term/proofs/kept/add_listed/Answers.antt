use Rattle.ghc_term.proofs.Words.{refl, ap, ◌∙◌, subst, In}
use Rattle.ghc_term.specs.inner.KeptList.{Gathers}
use Rattle.ghc_term.proofs.kept.add_listed.Goals as goal

pub returns : goal.returns
returns c = (refl, subst (λ l. Gathers (λ y. In y l) c.args.into.now c.add_each.new.into) (c.as_slice.ensures.value ∙ ap (λ v. v.items) c.deref.ensures) c.in_ok-add_each.ensures)
