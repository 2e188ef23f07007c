use Rattle.ghc_term.proofs.Words.{◌≡◌, ◌↔◌, sym, ap, ◌∙◌, subst, IfOk-weaker, VarName, Occurs, tree_of, items_of, trees, IsWellMade}
use Rattle.ghc_term.specs.inner.KeptList.{IsTold}
use Rattle.ghc_term.specs.declared.term.Shape.TheVariants.{Branch}
use Rattle.ghc_term.proofs.Gathered.{told_occurs, as_told}
use Rattle.ghc_term.proofs.term.Term.add_kept.Goals as goal

pub returns-in-Branch-clause-found : goal.returns-in-Branch-clause-found
returns-in-Branch-clause-found c =
    let made = subst IsWellMade c.in-Branch.is c.self.invariant in
    let here : tree_of (Branch c.in-Branch.branch) ≡ c.args.self.now = sym (ap tree_of c.in-Branch.is) ∙ c.self.view_is in
    let ns = c.deref.result.now.kept.numbers in
    let told : (x : VarName) → IsTold x ns ↔ Occurs x c.args.self.now = λ x.
    subst (λ t. IsTold x ns ↔ Occurs x t) here (told_occurs ns (trees (items_of c.in-Branch.branch.value.structure.arguments)) x (ap (λ b. b.kept.numbers) c.deref.ensures ∙ made.2)) in
    IfOk-weaker c.add_kept.result _ _ (λ found h yes. as_told c.args.into.now c.add_kept.new.into told (h yes)) c.add_kept.ensures.found
