use Rattle.ghc_term.proofs.Words.{inl, inr, sym, subst, In}
use Rattle.ghc_term.proofs.SetsLemmas.{has_member, is_member}
use Rattle.ghc_term.proofs.term.Term.variables.Goals as goal

pub returns : goal.returns
returns c x =
    let xs = c.add_variables.new.into in
    let all = c.in_ok-add_variables.ensures.1 x in (
      λ t. elim (all.0 (is_member c.of.result xs (sym c.of.ensures) x t)) [ inl i ↦ absurd (subst (In x) c.new-list.ensures i) | inr o ↦ o ],
      λ o. has_member c.of.result xs (sym c.of.ensures) x (all.1 (inr o)),
    )
