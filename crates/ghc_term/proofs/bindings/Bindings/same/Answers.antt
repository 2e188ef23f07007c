use Rattle.ghc_term.proofs.Words.{sym, ap, ◌∙◌, IfOk-weaker, value_at}
use Rattle.ghc_term.proofs.MapsLemmas.{same_bindings}
use Rattle.ghc_term.proofs.bindings.Bindings.same.Goals as goal

pub returns : goal.returns
returns c =
    IfOk-weaker c.is_within.result _ _ (λ b w.
    (λ yes. same_bindings c.args.self.now c.args.other.now (sym c.len.ensures ∙ c.if-len.false ∙ c.len-2.ensures) (w.0 yes), λ e. w.1 (λ x t g. ap (λ m. value_at m x) (sym e) ∙ g))) c.is_within.ensures
