-- A step is not undone, or not redone, for one reason, and not where it can be.
use Rattle.ghc_core.proofs.Words.{◌≡◌, ℕ, ◌<◌, List, length, sym, ap, ◌∙◌, subst, inl, inr, arith, Some, kept_limit, Fault, AreDistinct, Record, numbers, Fires, record_once, Follows, IsKeptAs, IsFirstConsequence, consequences, World, IsKnown, HasConsequence, UndoFails, RedoFails}
use Rattle.std.specs.FinMap as finite
use Rattle.ghc_core.proofs.Refusing.{TellsOne, told_once, first_once, has_not, value_once, finds}

-- a number has one kept record
pub kept_once : (rs : List Record) (n : ℕ) (r s : Record) → AreDistinct (numbers rs) → IsKeptAs rs n r → IsKeptAs rs n s → r ≡ s
kept_once rs n r s d p q = record_once rs r s d p.0 q.0 (p.1 ∙ sym q.1)

module _ (w : World) (n : ℕ) (d : AreDistinct (numbers w.kept)) where
  consequence_once : TellsOne (HasConsequence w.kept n)
  consequence_once f g (r, b, e, k, c) (s, a, h, l, z) =
      let same : r ≡ s = kept_once w.kept n r s d k l in
      e ∙ ap (λ (x : Record). Fault.HasConsequence x.number) ((consequences w.kept s d).one_first b a (subst (λ x. IsFirstConsequence w.kept x b) same c) z) ∙ sym h

  pub undo_fails_once : {f g : Fault} → UndoFails w.kept n f → UndoFails w.kept n g → f ≡ g
  undo_fails_once {f} {g} p q = first_once _ _ (told_once _ _) consequence_once f g p.first q.first

  pub undo_or_fail : {f : Fault} (r : Record) → IsKeptAs w.kept n r → ((b : Record) → ¬ Follows w.kept r b) → ¬ UndoFails w.kept n f
  undo_or_fail r k none p = elim p.first [ inl n ↦ n.1 r k.0 k.1 | inr q ↦ let (s, b, e, l, c) = q.1 in none b (subst (λ x. Follows w.kept x b) (kept_once w.kept n s r d l k) c.0) ]

module _ (w : World) (n : ℕ) where
  pub redo_or_fail : {f : Fault} (r : Record) → finite.get w.shelf n ≡ Some r → Fires w.opening.program w.state r → length w.kept < kept_limit → IsKnown w r → ¬ RedoFails w n f
  redo_or_fail r on fires few known p = elim p.first [
    | inl n ↦ has_not on n.1
    | inr (_, inl (_, (s, at, (g, named, gone)))) ↦ has_not (finds w r g fires (ap (λ (x : Record). x.goal) (value_once on at) ∙ named)).2 gone
    | inr (_, inr (_, inl (_, (s, at, unknown)))) ↦ unknown (subst (IsKnown w) (value_once on at) known)
    | inr (_, inr (_, inr (_, inl (_, (s, at, other))))) ↦ other (subst (Fires w.opening.program w.state) (value_once on at) fires)
    | inr (_, inr (_, inr (_, inr (_, (_, many))))) ↦ omega (arith, few, many)
  ]

  pub redo_fails_once : {f g : Fault} → RedoFails w n f → RedoFails w n g → f ≡ g
  redo_fails_once {f} {g} p q = first_once _ _ (told_once _ _) (first_once _ _ (told_once _ _) (first_once _ _ (told_once _ _) (first_once _ _ (told_once _ _) (told_once _ _)))) f g p.first q.first
