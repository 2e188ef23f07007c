use Rattle.ghc_term.proofs.Words.{length, sym, subst, value_in}
use Rattle.ghc_term.specs.inner.Walking.{AreFirstKnown}
use Rattle.ghc_term.proofs.Far.{open_added}
use Rattle.ghc_term.proofs.overlay.Overlay.learn_far.Goals as goal

pub learn_values-requires : goal.learn_values-requires
learn_values-requires c =
    subst (λ xs. AreFirstKnown (value_in c.args.self.now) (length xs) c.add_variables_of_all.new.into) (sym c.as_slice-count.ensures.variables)
    (open_added c.args.known.now c.add_variables_of_all.new.into _ c.requires c.in_ok-add_variables_of_all.ensures)
