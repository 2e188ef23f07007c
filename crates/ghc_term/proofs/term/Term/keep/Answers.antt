use Rattle.ghc_term.proofs.Words.{◌≡◌, ◌↔◌, sym, ap, ◌∙◌, subst, Occurs, tree_of, items_of, trees, IsWellMade}
use Rattle.ghc_term.specs.inner.KeptList.{IsTold}
use Rattle.ghc_term.specs.declared.term.Shape.TheVariants.{Branch}
use Rattle.ghc_term.proofs.Gathered.{told_occurs}
use Rattle.ghc_term.proofs.term.Term.keep.Goals as goal

pub keep-requires : goal.keep-requires
keep-requires c x =
    let made = subst IsWellMade c.in-Branch.is c.self.invariant in
    let here : tree_of (Branch c.in-Branch.branch) ≡ c.args.self.now = sym (ap tree_of c.in-Branch.is) ∙ c.self.view_is in
    let ns = c.deref.result.now.kept.numbers in
    let told : IsTold x ns ↔ Occurs x c.args.self.now =
    subst (λ t. IsTold x ns ↔ Occurs x t) here (told_occurs ns (trees (items_of c.in-Branch.branch.value.structure.arguments)) x (ap (λ b. b.kept.numbers) c.deref.ensures ∙ made.2)) in
    (λ i. told.1 ((c.requires x).0 i), λ t. (c.requires x).1 (told.0 t))
