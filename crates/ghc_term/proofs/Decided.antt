-- What is so, or is not.
use Rattle.ghc_term.proofs.Words.{◌≡◌, ℕ, Bool, true, false, List, [], ◌∷◌, refl, sym, ap, ◌∙◌, subst, inl, inr, ◌⊎◌, Coded, eq_by_cmp, cases_eq, VarName, name_cmp, In}
use base.Stored.{Gv, gnil, gnum, gcons}
use Rattle.ghc_term.proofs.Names.{same_name, itself}

-- P is so, or is not
abbrev pub Decided : Type 0 → Type 0
Decided P = P ⊎ (¬ P)

pub decided_by : {A B : Type 0} → (A → B) → (B → A) → Decided A → Decided B
decided_by f g (inl a) = inl (f a)
decided_by f g (inr n) = inr (λ b. n (g b))

pub decided_both : {A B : Type 0} → Decided A → Decided B → Decided (A × B)
decided_both (inl a) (inl b) = inl (a, b)
decided_both (inl a) (inr n) = inr (λ p. n p.1)
decided_both (inr n) k = inr (λ p. n p.0)

pub decided_either : {A B : Type 0} → Decided A → Decided B → Decided (A ⊎ B)
decided_either (inl a) k = inl (inl a)
decided_either (inr n) (inl b) = inl (inr b)
decided_either (inr n) (inr m) = inr (λ p. elim p [ inl a ↦ n a | inr b ↦ m b ])

pub true_decided : (b : Bool) → Decided (b ≡ true)
true_decided true = inl refl
true_decided false = inr (λ e. cc)

pub nat_decided : (a b : ℕ) → Decided (a ≡ b)
nat_decided a b = cases_eq a b

pub name_decided : (x y : VarName) → Decided (x ≡ y)
name_decided x y =
    elim (eq_by_cmp name_cmp x y) as (λ c. eq_by_cmp name_cmp x y ≡ c → Decided (x ≡ y)) [
      | true ↦ λ p. inl (same_name x y p)
      | false ↦ λ p. inr (λ e. let clash : true ≡ false = sym (itself x) ∙ ap (eq_by_cmp name_cmp x) e ∙ p in cc)
    ] refl

code_decided : (a b : Gv) → Decided (a ≡ b)
code_decided gnil gnil = inl refl
code_decided (gnum n) (gnum m) = elim (nat_decided n m) [ inl e ↦ inl (ap gnum e) | inr d ↦ inr (λ e. d (cc)) ]
code_decided (gcons a b) (gcons c d) = elim (code_decided a c) [
  | inr n ↦ inr (λ e. n (cc))
  | inl p ↦ elim (code_decided b d) [ inr n ↦ inr (λ e. n (cc)) | inl q ↦ inl (cc) ]
]
code_decided a b = inr (λ e. cc)

-- two things are one where their codes are
pub same_decided : {A : Type 0} → Coded A → (x y : A) → Decided (x ≡ y)
same_decided c x y = elim (code_decided (c.code x) (c.code y)) [ inl e ↦ inl (c.inj x y e) | inr n ↦ inr (λ e. n (ap c.code e)) ]

module _ {X : Type 0} where
  pub in_decided : ((x y : X) → Decided (x ≡ y)) → (x : X) (xs : List X) → Decided (In x xs)
  in_decided d x [] = inr (λ i. i)
  in_decided d x (y ∷ xs) = decided_either (d x y) (in_decided d x xs)

  -- some element of the list has Q, or none has
  pub some_decided : (xs : List X) (Q : X → Type 0) → ((x : X) → In x xs → Decided (Q x)) → Decided ((x : X) × In x xs × Q x)
  some_decided [] Q f = inr (λ h. h.1)
  some_decided (x ∷ xs) Q f = elim (f x (inl refl)) [
    | inl q ↦ inl (x, inl refl, q)
    | inr n ↦ elim (some_decided xs Q (λ y i. f y (inr i))) [
      | inl r ↦ inl (r.0, inr r.1, r.2)
      | inr m ↦ inr (λ h. elim h.1 [ inl e ↦ n (subst Q e h.2) | inr i ↦ m (h.0, i, h.2) ])
    ]
  ]
