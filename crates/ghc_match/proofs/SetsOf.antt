-- Finite sets of variables made from one another.
use Rattle.ghc_match.proofs.Words.{◌≡◌, ℕ, zero, suc, ◌<◌, true, false, sym, ◌∙◌, subst, inl, inr, ◌⊎◌, arith, IsTrue, or_cases, or_left, or_right, VarName, name_cmp, Variables, IsSetOf, name_total, set_of, set_by}
use Rattle.std.specs.FinSet as set
use Rattle.ghc_match.proofs.Listings.{Listing}

-- the set of all of which P holds
abbrev pub SetOf : (VarName → Type 0) → Type 0
SetOf P = (xs : Variables) × IsSetOf xs P

pub no_set : {P : VarName → Type 0} → ((x : VarName) → ¬ P x) → SetOf P
no_set n = (set.empty, λ x. ((λ c. let no_element : false ≡ true = sym (set.contains-empty name_cmp x) ∙ c in cc), λ p. absurd (n x p)))

pub either_set : {P Q : VarName → Type 0} → SetOf P → SetOf Q → SetOf (λ x. P x ⊎ Q x)
either_set p q = (
  set.union p.0 q.0,
  λ x. (
    λ c. elim (or_cases (set.contains p.0 x) (set.contains q.0 x) (sym (set.contains-union name_total p.0 q.0 x) ∙ c)) [ inl a ↦ inl ((p.1 x).0 a) | inr b ↦ inr ((q.1 x).0 b) ],
    λ h. set.contains-union name_total p.0 q.0 x ∙ elim h [ inl a ↦ or_left (set.contains p.0 x) (set.contains q.0 x) ((p.1 x).1 a) | inr b ↦ or_right (set.contains p.0 x) (set.contains q.0 x) ((q.1 x).1 b) ],
  ),
)

pub restated_set : {P Q : VarName → Type 0} → ((x : VarName) → P x → Q x) → ((x : VarName) → Q x → P x) → SetOf P → SetOf Q
restated_set {P = P} {Q = Q} f g p = (p.0, set_of p.0 P Q f g p.1)

-- the set of those listed
pub listed_set : {P : VarName → Type 0} → Listing P → SetOf P
listed_set {P = P} l = (set.from_list l.items, set_by l.items P l.each l.all)

-- the elements of a set
pub own_set : (xs : Variables) → SetOf (λ x. IsTrue (set.contains xs x))
own_set xs = (xs, λ x. ((λ c. c), λ c. c))

-- over the numbers below n
pub below_set : (Q : ℕ → VarName → Type 0) → ((k : ℕ) → SetOf (Q k)) → (n : ℕ) → SetOf (λ x. (k : ℕ) × (k < n) × Q k x)
below_set Q f zero = no_set (λ x h. absurd (omega (arith, h.1)))
below_set Q f (suc n) = restated_set
    (λ x h. elim h [ inl a ↦ (n, omega arith, a) | inr b ↦ (b.0, omega (arith, b.1), b.2) ])
    (λ x h. elim (last h.0 h.1) [ inl e ↦ inl (subst (λ k. Q k x) e h.2) | inr l ↦ inr (h.0, l, h.2) ])
    (either_set (f n) (below_set Q f n))
  where
    last : (k : ℕ) → k < suc n → (k ≡ n) ⊎ (k < n)
    last k h = grind arith
