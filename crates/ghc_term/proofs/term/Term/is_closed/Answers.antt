use Rattle.ghc_term.proofs.Words.{◌≡◌, false, true, refl, sym, ◌∙◌, ap, subst, IsClosed, variable, tree_of, closed_of, IsWellMade}
use Rattle.ghc_term.specs.declared.term.Shape.TheVariants.{Struct, Branch}
use Rattle.ghc_term.proofs.term.Term.is_closed.Goals as goal

pub returns-in-Var : goal.returns-in-Var
returns-in-Var c =
    let here : variable c.in-Var.field-1 ≡ c.args.self.now = sym (ap tree_of c.in-Var.is) ∙ c.self.view_is in (
      λ no. let clash : false ≡ true = no in cc,
      λ closed. absurd (subst IsClosed (sym here) closed c.in-Var.field-1 refl),
    )

pub returns-in-Struct : goal.returns-in-Struct
returns-in-Struct c =
    let made = subst IsWellMade c.in-Struct.is c.self.invariant in
    let here : tree_of (Struct c.in-Struct.structure) ≡ c.args.self.now = sym (ap tree_of c.in-Struct.is) ∙ c.self.view_is in
    let same : c.is_closed.result ≡ closed_of c.in-Struct.structure.value.arguments = c.is_closed.ensures ∙ ap (λ s. closed_of s.arguments) c.deref.ensures in (
      λ yes. subst IsClosed here (made.1.0 (sym same ∙ yes)),
      λ closed. same ∙ made.1.1 (subst IsClosed (sym here) closed),
    )

pub returns-in-Branch : goal.returns-in-Branch
returns-in-Branch c =
    let made = subst IsWellMade c.in-Branch.is c.self.invariant in
    let here : tree_of (Branch c.in-Branch.branch) ≡ c.args.self.now = sym (ap tree_of c.in-Branch.is) ∙ c.self.view_is in
    let same : c.is_closed-in-Branch.result ≡ closed_of c.in-Branch.branch.value.structure.arguments = c.is_closed-in-Branch.ensures ∙ ap (λ b. closed_of b.structure.arguments) c.deref-in-Branch.ensures in (
      λ yes. subst IsClosed here (made.1.0 (sym same ∙ yes)),
      λ closed. same ∙ made.1.1 (subst IsClosed (sym here) closed),
    )
