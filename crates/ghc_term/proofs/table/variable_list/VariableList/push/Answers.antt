use Rattle.ghc_term.proofs.Words.{◌++◌, ◌∷◌, [], refl, sym, ap, ◌∙◌, subst, In, AreDifferent}
use Rattle.ghc_term.specs.inner.VariableList.{in_order}
use Rattle.ghc_term.proofs.VariableLists.{pushed, one_alone, one_more}
use Rattle.ghc_term.proofs.table.variable_list.VariableList.push.Goals as goal

pub invariant_of-self-in-Nothing-3 : goal.invariant_of-self-in-Nothing-3
invariant_of-self-in-Nothing-3 c = one_alone c.args.x

pub invariant_of-self-in-One-3 : goal.invariant_of-self-in-One-3
invariant_of-self-in-One-3 c =
    one_more (c.in-One.y ∷ []) (c.in-One.y ∷ c.args.x ∷ []) c.args.x (one_alone c.in-One.y) (λ i. c.requires (subst (In c.args.x) (ap in_order (sym c.in-One.is) ∙ c.self.view_is) i)) refl

pub invariant_of-self-in-Two-3 : goal.invariant_of-self-in-Two-3
invariant_of-self-in-Two-3 c =
    one_more c.in-Two.two c.with_third-three.result c.args.x (subst AreDifferent (ap in_order c.in-Two.is) c.self.invariant)
    (λ i. c.requires (subst (In c.args.x) (ap in_order (sym c.in-Two.is) ∙ c.self.view_is) i)) c.with_third-three.ensures

pub invariant_of-self-in_ok-list-in-Three-3 : goal.invariant_of-self-in_ok-list-in-Three-3
invariant_of-self-in_ok-list-in-Three-3 c =
    one_more c.in-Three.three c.in_ok-list-in-Three.list.items c.args.x (subst AreDifferent (ap in_order c.in-Three.is) c.self.invariant)
    (λ i. c.requires (subst (In c.args.x) (ap in_order (sym c.in-Three.is) ∙ c.self.view_is) i)) c.in_ok-list-in-Three.ensures

pub invariant_of-self-in_ok-push-in-Listed : goal.invariant_of-self-in_ok-push-in-Listed
invariant_of-self-in_ok-push-in-Listed c =
    one_more c.in-Listed.list.items c.push.new.self.items c.args.x (subst AreDifferent (ap in_order c.in-Listed.is) c.self.invariant)
    (λ i. c.requires (subst (In c.args.x) (ap in_order (sym c.in-Listed.is) ∙ c.self.view_is) i)) c.in_ok-push-in-Listed.ensures.items

pub tabled-requires : goal.tabled-requires
tabled-requires c = record {
  different = subst AreDifferent (ap in_order c.in-Listed.is) c.self.invariant;
  new = λ i. c.requires (subst (In c.args.x) (ap in_order (sym c.in-Listed.is) ∙ c.self.view_is) i);
}

pub invariant_of-self-in_ok-tabled-in-Listed : goal.invariant_of-self-in_ok-tabled-in-Listed
invariant_of-self-in_ok-tabled-in-Listed c =
    one_more c.in-Listed.list.items c.in_ok-tabled-in-Listed.field-0.value.keys c.args.x (subst AreDifferent (ap in_order c.in-Listed.is) c.self.invariant)
    (λ i. c.requires (subst (In c.args.x) (ap in_order (sym c.in-Listed.is) ∙ c.self.view_is) i)) c.in_ok-tabled-in-Listed.ensures

pub returns-in_ok-insert-in-Tabled-clause-ok : goal.returns-in_ok-insert-in-Tabled-clause-ok
returns-in_ok-insert-in-Tabled-clause-ok c =
    let whole = ap (λ t. t.keys) c.deref_mut.ensures.value ∙ ap in_order (sym c.in-Tabled.is) ∙ c.self.view_is in
    c.in_ok-insert-in-Tabled.ensures.keys ∙ pushed c.deref_mut.result.now.keys c.args.x (λ i. c.requires (subst (In c.args.x) whole i)) ∙ ap (λ l. l ++ c.args.x ∷ []) whole
