-- What does not reach a variable, as is seen at a glance.
use Rattle.ghc_unify.proofs.Words.{◌≡◌, ℕ, List, [], ◌∷◌, ◌++◌, sym, ap, ◌∙◌, refl, subst, inl, inr, Option, Some, None, VarName, Tree, variable, node, trees, OccursIn_push, IsClosed, Reaches, here, through, now, with_binding, StoreValue, Unifies, left, go, stay}
use Rattle.std.specs.FinMap as finite
use Rattle.std.specs.FinSet as set

module _ {S : VarName → Option Tree} {x : VarName} where
  pub closed_apart : {t : Tree} → IsClosed t → ¬ Reaches S t x
  closed_apart h (here o) = h _ o
  closed_apart h (through o e r) = h _ o

  pub free_apart : {y : VarName} → ¬ (y ≡ x) → S y ≡ None → ¬ Reaches S (variable y) x
  free_apart n e (here o) = n (sym o)
  free_apart n e (through {u = u} o p r) = let clash : None ≡ Some u = sym e ∙ ap S (sym o) ∙ p in cc

  pub bound_apart : {y : VarName} {v : Tree} → ¬ (y ≡ x) → S y ≡ Some v → IsClosed v → ¬ Reaches S (variable y) x
  bound_apart n e h (here o) = n (sym o)
  bound_apart {v = v} n e h (through {u = u} o p r) = let same : u ≡ v = cc in closed_apart h (subst (λ t. Reaches S t x) same r)

  pub one_more_apart : (f : List ℕ) (ts : List Tree) (t : Tree) → ¬ Reaches S (node f (trees ts)) x → ¬ Reaches S t x → ¬ Reaches S (node f (trees (ts ++ t ∷ []))) x
  one_more_apart f ts t n m (here o) = elim (OccursIn_push ts t _ o) [ inl p ↦ n (here p) | inr p ↦ m (here p) ]
  one_more_apart f ts t n m (through o e r) = elim (OccursIn_push ts t _ o) [ inl p ↦ n (through p e r) | inr p ↦ m (through p e r) ]

-- the one move where the left side is an unbound variable that the right side does not reach
pub bound_at_once : (S : VarName → Option Tree) (x : VarName) (l r : Tree) (binds : StoreValue) → variable x ≡ l → S x ≡ None → ¬ Reaches S r x → binds ≡ finite.insert finite.empty x r → Unifies S l r binds set.empty
bound_at_once S x l r binds is e n b =
    subst (λ t. Unifies S t r binds set.empty) is ((x, r) ∷ [], [], (with_binding S x r, go (left now e n) stay), b, refl)
