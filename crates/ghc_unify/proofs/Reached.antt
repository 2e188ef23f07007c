-- In an acyclic finite store it is decided whether a tree reaches a variable.
use Rattle.ghc_unify.proofs.Words.{◌≡◌, ℕ, zero, suc, ◌≤◌, refl, sym, ◌∙◌, subst, inl, inr, ◌⊎◌, Option, Some, VarName, Tree, variable, integer, node, Trees, none, more, Occurs, OccursIn, StoreValue, value_at, Reaches, here, through, IsAcyclic, reaches_more, Decided, decided_by, decided_either, name_decided, removed_apart, removed_less, removed_acyclic, fewer, none_bound}
use Rattle.std.specs.FinMap as finite
use Rattle.ghc_unify.proofs.Locality.{by_value}

-- what a tree reaches without passing y, it reaches where y's binding is taken away
around : (s : StoreValue) (y : VarName) {t : Tree} {x : VarName} → ¬ Reaches (value_at s) t y → Reaches (value_at s) t x → Reaches (value_at (finite.remove s y)) t x
around s y n (here o) = here o
around s y {t = t} n (through {u = u} {y = z} o e r) =
    through o (removed_apart s y z (λ same. n (subst (Reaches (value_at s) t) same (here o))) ∙ e) (around s y (λ q. n (through o e q)) r)

-- a tree reaches x by one of its variables
module _ (S : VarName → Option Tree) (x : VarName) where
  abbrev By : VarName → Type 0
  By y = (x ≡ y) ⊎ ((u : Tree) × (S y ≡ Some u) × Reaches S u x)

  by_one : {t : Tree} → Reaches S t x → (y : VarName) × Occurs y t × By y
  by_one (here o) = (x, o, inl refl)
  by_one (through {u = u} {y = y} o e r) = (y, o, inr (u, e, r))

  reached : {t : Tree} → (y : VarName) × Occurs y t × By y → Reaches S t x
  reached {t = t} h = elim h.2 [ inl e ↦ here (subst (λ z. Occurs z t) (sym e) h.1) | inr n ↦ through h.1 n.1 n.2 ]

  -- where it is decided of each value, it is decided of each tree
  module _ (of_value : (y : VarName) (u : Tree) → S y ≡ Some u → Decided (Reaches S u x)) where
    by_decided : (y : VarName) → Decided (By y)
    by_decided y = decided_either (name_decided x y) (by_value (S y)
        (λ n. inr (λ r. cc))
        (λ u e. decided_by (λ r. (u, e, r)) (λ r. let same : r.0 ≡ u = cc in subst (λ w. Reaches S w x) same r.2) (of_value y u e)))

    mutual
      some_by : (t : Tree) → Decided ((y : VarName) × Occurs y t × By y)
      some_by (variable y) = decided_by (λ e. (y, refl, e)) (λ h. subst By h.1 h.2) (by_decided y)
      some_by (integer k) = inr (λ h. h.1)
      some_by (node f ts) = some_of_all ts

      some_of_all : (ts : Trees) → Decided ((y : VarName) × OccursIn y ts × By y)
      some_of_all none = inr (λ h. h.1)
      some_of_all (more t ts) = decided_by
          (λ e. elim e [ inl h ↦ (h.0, inl h.1, h.2) | inr h ↦ (h.0, inr h.1, h.2) ])
          (λ h. elim h.1 [ inl o ↦ inl (h.0, o, h.2) | inr o ↦ inr (h.0, o, h.2) ]) (decided_either (some_by t) (some_of_all ts))

    of_tree : (t : Tree) → Decided (Reaches S t x)
    of_tree t = decided_by reached by_one (some_by t)

pub reaches_decided : (n : ℕ) (s : StoreValue) → finite.len s ≤ n → IsAcyclic (value_at s) → (x : VarName) (t : Tree) → Decided (Reaches (value_at s) t x)
reaches_decided zero s le h x t = of_tree (value_at s) x (λ y u e. absurd (none_bound s y u le e)) t
reaches_decided (suc n) s le h x t = of_tree (value_at s) x (λ y u e.
    elim (reaches_decided n (finite.remove s y) (fewer s y u n e le) (removed_acyclic s y h) x u) [
      | inl r ↦ inl (reaches_more r (λ q w p. removed_less s y q w p))
      | inr m ↦ inr (λ r. m (around s y (h y u e) r))
    ]) t
