use Rattle.ghc_match.proofs.Words.{◌≡◌, false, true, sym, subst, IsAtom}
use Rattle.ghc_match.proofs.AlikeLemmas.{no_atom}
use Rattle.ghc_match.proofs.alike.is_atom.Goals as goal

pub returns-in_default : goal.returns-in_default
returns-in_default c = (
  λ h. absurd (let clash : false ≡ true = h in cc),
  λ k. absurd (no_atom c.view.result c.view.ensures.arguments c.in_default.not-Atom (subst IsAtom (sym c.view.ensures.shown) k)),
)
