use Rattle.ghc_console.proofs.CitedWords.{◌≡◌, ◌∙◌, Some, None, inl, inr, subst, sym, not_both, IsVariableOf, IsGivenName}
use Rattle.ghc_console.proofs.named_variable.variable_named.Goals as goal

pub returns-in_default-numbered-clause-none : goal.returns-in_default-numbered-clause-none
returns-in_default-numbered-clause-none c x a =
    let w = c.args.core.now.world in
    elim a [
      | inl g ↦ c.in_default.ensures.none x (subst (λ names. IsGivenName names c.args.word.now x) (sym c.query.ensures.names) g)
      | inr n ↦ let both : Some c.in-Some-numbered.x ≡ Some x = sym c.in-Some-numbered.is ∙ c.numbered.ensures ∙ n.0 in
          let same : c.in-Some-numbered.x ≡ x = cc in
          not_both c.is_variable_of.result c.if-is_variable_of.false (c.is_variable_of.ensures.1 (subst (IsVariableOf w.opening.query w.kept) (sym same) n.1))
    ]

pub returns-in_default-numbered-2-clause-none : goal.returns-in_default-numbered-2-clause-none
returns-in_default-numbered-2-clause-none c x a =
    elim a [
      | inl g ↦ c.in_default.ensures.none x (subst (λ names. IsGivenName names c.args.word.now x) (sym c.query.ensures.names) g)
      | inr n ↦ let both : None ≡ Some x = sym c.in_default-numbered.is ∙ c.numbered.ensures ∙ n.0 in cc
    ]
