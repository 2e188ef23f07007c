-- How large a tree is once its variables are replaced by what they lead to: a number that falls where a structure is taken apart.
use Rattle.ghc_term.proofs.Words.{◌≡◌, ℕ, zero, suc, ◌+◌, ◌≤◌, List, refl, sym, ap, ◌∙◌, subst, inl, inr, arith, Option, Some, None, VarName, Tree, variable, integer, node, Trees, none, more, Occurs, OccursIn, StoreValue, value_at, Leads, along, Reaches, here, through, IsAcyclic}
use Rattle.std.specs.FinMap as finite
use Rattle.ghc_term.proofs.Total.{removed_apart, removed_acyclic, fewer, none_bound}

abbrev mutual
  pub weigh : (VarName → ℕ) → Tree → ℕ
  weigh f (variable x) = suc (f x)
  weigh f (integer _) = 1
  weigh f (node _ ts) = suc (weigh_all f ts)

  pub weigh_all : (VarName → ℕ) → Trees → ℕ
  weigh_all f none = 0
  weigh_all f (more t ts) = weigh f t + weigh_all f ts

abbrev pub or_zero : (Tree → ℕ) → Option Tree → ℕ
or_zero f None = 0
or_zero f (Some u) = f u

-- with at most n bindings followed on each way
abbrev pub behind : ℕ → (VarName → Option Tree) → VarName → ℕ
behind zero S x = 0
behind (suc n) S x = or_zero (weigh (behind n S)) (S x)

abbrev pub weight : ℕ → (VarName → Option Tree) → Tree → ℕ
weight n S t = weigh (behind n S) t

mutual
  weigh_same : (f g : VarName → ℕ) (t : Tree) → ((x : VarName) → Occurs x t → f x ≡ g x) → weigh f t ≡ weigh g t
  weigh_same f g (variable x) h = ap suc (h x refl)
  weigh_same f g (integer k) h = refl
  weigh_same f g (node n ts) h = ap suc (weigh_all_same f g ts h)

  weigh_all_same : (f g : VarName → ℕ) (ts : Trees) → ((x : VarName) → OccursIn x ts → f x ≡ g x) → weigh_all f ts ≡ weigh_all g ts
  weigh_all_same f g none h = refl
  weigh_all_same f g (more t ts) h = let a = weigh_same f g t (λ x o. h x (inl o)) in let b = weigh_all_same f g ts (λ x o. h x (inr o)) in omega (arith, a, b)

-- two stores that agree on what is reached
agree : (n : ℕ) (S S' : VarName → Option Tree) (t : Tree) → ((x : VarName) → Reaches S t x → S' x ≡ S x) → weight n S t ≡ weight n S' t
agree zero S S' t h = refl
agree (suc n) S S' t h = weigh_same _ _ t (λ x o.
    elim (S x) as (λ v. S x ≡ v → or_zero (weight n S) v ≡ or_zero (weight n S') v) [
      | None ↦ λ e. refl
      | Some u ↦ λ e. agree n S S' u (λ y r. h y (through o e r))
    ] refl ∙ ap (or_zero (weight n S')) (sym (h x (here o))))

-- taking away a binding of what is not reached
removed_weight : (n : ℕ) (S : StoreValue) (x : VarName) (t : Tree) → ¬ Reaches (value_at S) t x → weight n (value_at S) t ≡ weight n (value_at (finite.remove S x)) t
removed_weight n S x t h = agree n (value_at S) (value_at (finite.remove S x)) t (λ y r. removed_apart S x y (λ e. h (subst (λ z. Reaches (value_at S) t z) e r)))

-- past the number of bindings nothing is added
settled : (n : ℕ) (S : StoreValue) → finite.len S ≤ n → IsAcyclic (value_at S) → (t : Tree) → weight n (value_at S) t ≡ weight (suc n) (value_at S) t
settled zero S le h t = weigh_same _ _ t (λ x o.
    elim (value_at S x) as (λ v. value_at S x ≡ v → 0 ≡ or_zero (weight zero (value_at S)) v) [
      | None ↦ λ e. refl
      | Some u ↦ λ e. absurd (none_bound S x u le e)
    ] refl)
settled (suc n) S le h t = weigh_same _ _ t (λ x o.
    elim (value_at S x) as (λ v. value_at S x ≡ v → or_zero (weight n (value_at S)) v ≡ or_zero (weight (suc n) (value_at S)) v) [
      | None ↦ λ e. refl
      | Some u ↦ λ e.
          let open_end = h x u e in
          removed_weight n S x u open_end ∙ settled n (finite.remove S x) (fewer S x u n e le) (removed_acyclic S x h) u ∙ sym (removed_weight (suc n) S x u open_end)
    ] refl)

-- the size of what t stands for in the store
abbrev pub size : StoreValue → Tree → ℕ
size S t = weight (finite.len S) (value_at S) t

pub size_variable : (S : StoreValue) → IsAcyclic (value_at S) → (x : VarName) (u : Tree) → value_at S x ≡ Some u → size S (variable x) ≡ suc (size S u)
size_variable S h x u e =
    elim (finite.len S) as (λ n. finite.len S ≡ n → suc (behind n (value_at S) x) ≡ suc (weight n (value_at S) u)) [
      | zero ↦ λ z. absurd (none_bound S x u (omega arith) e)
      | suc n ↦ λ z.
          let le : finite.len S ≤ suc n = omega arith in
          let open_end = h x u e in
          ap (λ v. suc (or_zero (weight n (value_at S)) v)) e
          ∙ ap suc (removed_weight n S x u open_end ∙ settled n (finite.remove S x) (fewer S x u n e le) (removed_acyclic S x h) u ∙ sym (removed_weight (suc n) S x u open_end))
    ] refl

-- the end of a chain is no larger
pub size_end : (S : StoreValue) → IsAcyclic (value_at S) → {t e : Tree} {xs : List VarName} → Leads (value_at S) t xs e → size S e ≤ size S t
size_end S h (along {x = x} {t = u} p a) = omega (arith, size_variable S h x u p, size_end S h a)
size_end S h l = omega arith

abbrev pub size_all : StoreValue → Trees → ℕ
size_all S ts = weigh_all (behind (finite.len S) (value_at S)) ts
