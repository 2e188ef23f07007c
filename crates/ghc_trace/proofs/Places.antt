-- The steps that gave a place its term and its place, by their numbers.
use Rattle.ghc_trace.proofs.Words.{true, false, is_some, has_member, is_member, ◌≡◌, ◌⊎◌, ◌↔◌, ◌∷◌, ◌++◌, ℕ, List, [], refl, sym, subst, inl, inr, Option, VarName, Tree, In, in_left, in_last, in_more, Some, None, ◌∙◌, ap, Record, numbers, AreDistinct, record_once, SlotList, held_in, stands_held}
use Rattle.ghc_records.proofs.SlotLemmas.{held_stands}
use Rattle.ghc_depend.specs.inner.Sources.{IsPlaceOfOne}
use Rattle.std.specs.FinSet as set
use Rattle.ghc_term.specs.Sets.{IsSetOf, Variables}
use Rattle.ghc_term.specs.Bindings.{Reaches}
use Rattle.ghc_term.specs.Tree.{variable}
use Rattle.ghc_records.specs.Uses.{Binds, MakesVariable}
use Rattle.ghc_depend.specs.Parts.{GavePlace, IsOnWay}
use Rattle.ghc_trace.specs.Causes.{AreBindersOf}

-- of the variables, these are those of which P holds
abbrev pub AreThoseOf : (VarName → Type 0) → List VarName → List VarName → Type 0
AreThoseOf P xs ys = (v : VarName) → In v ys ↔ (In v xs × P v)

module _ (P : VarName → Type 0) (xs ys : List VarName) (x : VarName) (h : AreThoseOf P xs ys) where
  pub one_of_those : P x → AreThoseOf P (xs ++ x ∷ []) (ys ++ x ∷ [])
  one_of_those p v = (
    λ i. elim (in_more ys x v i) [
      | inl j ↦ let q = (h v).0 j in (in_left xs (x ∷ []) v q.0, q.1)
      | inr same ↦ (subst (λ z. In z (xs ++ x ∷ [])) (sym same) (in_last xs x), subst P (sym same) p)
    ],
    λ q. elim (in_more xs x v q.0) [
      | inl j ↦ in_left ys (x ∷ []) v ((h v).1 (j, q.1))
      | inr same ↦ subst (λ z. In z (ys ++ x ∷ [])) (sym same) (in_last ys x)
    ],
  )

  pub none_of_those : ¬ P x → AreThoseOf P (xs ++ x ∷ []) ys
  none_of_those not v = (
    λ i. let q = (h v).0 i in (in_left xs (x ∷ []) v q.0, q.1),
    λ q. elim (in_more xs x v q.0) [ inl j ↦ (h v).1 (j, q.1) | inr same ↦ absurd (not (subst P same q.1)) ],
  )

-- these steps made one of these variables, beside those that were there
abbrev pub AddsMakers : List Record → List VarName → List ℕ → List ℕ → Type 0
AddsMakers kept xs old new = (r : Record) → In r kept → (In r.number new ↔ (In r.number old ⊎ ((x : VarName) × In x xs × MakesVariable r x)))

module _ (S : VarName → Option Tree) (kept : List Record) (distinct : AreDistinct (numbers kept)) (x y : VarName) where
  pub gave_place : (binders givers : List ℕ) → AreBindersOf kept (IsOnWay S x y) binders → AddsMakers kept (x ∷ y ∷ []) binders givers
      → (r : Record) → In r kept → In r.number givers ↔ GavePlace S x y r
  gave_place binders givers bound made r i = (
    λ j. elim ((made r i).0 j) [
      | inl b ↦ let q = (bound r.number).0 b in let s = q.2 in inl (q.0, q.1, subst (λ w. Binds w q.0) (record_once kept s.0 r distinct s.1 i s.2) s.3)
      | inr m ↦ elim m.1 [
        | inl same ↦ inr (inl (subst (MakesVariable r) same m.2))
        | inr k ↦ elim k [ inl same ↦ inr (inr (subst (MakesVariable r) same m.2)) | inr never ↦ absurd never ]
      ]
    ],
    λ g. (made r i).1 (elim g [
      | inl b ↦ inl ((bound r.number).1 (b.0, b.1, (r, i, refl, b.2)))
      | inr m ↦ elim m [ inl one ↦ inr (x, inl refl, one) | inr other ↦ inr (y, inr (inl refl), other) ]
    ]),
  )

-- the maker of one more variable, or that no step made it
module _ (ss : SlotList) (distinct : AreDistinct (numbers (held_in ss))) (xs : List VarName) (old new : List ℕ) (x : VarName) (h : AddsMakers (held_in ss) xs old new) where
  pub one_maker : (place : ℕ) → IsPlaceOfOne ss (λ a. MakesVariable a x) (Some place) → AddsMakers (held_in ss) (xs ++ x ∷ []) old (new ++ x.step ∷ [])
  one_maker place at r i = (
    λ j. elim (in_more new x.step r.number j) [
      | inl k ↦ elim ((h r i).0 k) [ inl o ↦ inl o | inr m ↦ inr (m.0, in_left xs (x ∷ []) m.0 m.1, m.2) ]
      | inr same ↦
          let a = at.0 in
          let one = record_once (held_in ss) a.0 r distinct (stands_held ss place a.0 a.1) i (sym a.2.0 ∙ sym same) in
          inr (x, in_last xs x, subst (λ z. MakesVariable z x) one a.2)
    ],
    λ e. elim e [
      | inl o ↦ in_left new (x.step ∷ []) r.number ((h r i).1 (inl o))
      | inr m ↦ elim (in_more xs x m.0 m.1) [
        | inl k ↦ in_left new (x.step ∷ []) r.number ((h r i).1 (inr (m.0, k, m.2)))
        | inr same ↦ subst (λ n. In n (new ++ x.step ∷ [])) (ap (λ (z : VarName). z.step) (sym same) ∙ m.2.0) (in_last new x.step)
      ]
    ],
  )

  pub no_maker : IsPlaceOfOne ss (λ a. MakesVariable a x) None → AddsMakers (held_in ss) (xs ++ x ∷ []) old new
  no_maker none r i = (
    λ j. elim ((h r i).0 j) [ inl o ↦ inl o | inr m ↦ inr (m.0, in_left xs (x ∷ []) m.0 m.1, m.2) ],
    λ e. elim e [
      | inl o ↦ (h r i).1 (inl o)
      | inr m ↦ elim (in_more xs x m.0 m.1) [
        | inl k ↦ (h r i).1 (inr (m.0, k, m.2))
        | inr same ↦ let at = held_stands ss r i in absurd (none at.0 r at.1 (subst (MakesVariable r) same m.2))
      ]
    ],
  )

  pub makers_end : (place : Option ℕ) → IsPlaceOfOne ss (λ a. MakesVariable a x) place → (last : List ℕ) → (is_some place ≡ true → last ≡ new ++ x.step ∷ []) → (is_some place ≡ false → last ≡ new)
      → AddsMakers (held_in ss) (xs ++ x ∷ []) old last
  makers_end None none last made still = subst (AddsMakers (held_in ss) (xs ++ x ∷ []) old) (sym (still refl)) (no_maker none)
  makers_end (Some p) at last made still = subst (AddsMakers (held_in ss) (xs ++ x ∷ []) old) (sym (made refl)) (one_maker p at)

-- no variables yet
pub no_makers : (kept : List Record) (old : List ℕ) → AddsMakers kept [] old old
no_makers kept old r i = (λ j. inl j, λ e. elim e [ inl j ↦ j | inr m ↦ absurd m.1 ])

-- the variable reaches y, or y reaches it
abbrev pub IsEitherWay : (VarName → Option Tree) → VarName → VarName → Type 0
IsEitherWay S y v = Reaches S (variable v) y ⊎ Reaches S (variable y) v

-- the steps that bound those on a way, where these are found among all that are reached
pub binders_on_way : (kept : List Record) (S : VarName → Option Tree) (x y : VarName) (reached : Variables) (among way : List VarName) (binders : List ℕ) → set.from_list among ≡ reached
    → IsSetOf reached (Reaches S (variable x)) → AreThoseOf (IsEitherWay S y) among way → AreBindersOf kept (λ z. In z way) binders → AreBindersOf kept (IsOnWay S x y) binders
binders_on_way kept S x y reached among way binders all is those bound n = (
  λ i. let b = (bound n).0 i in let q = (those b.0).0 b.1 in (b.0, ((is b.0).0 (has_member reached among all b.0 q.0), q.1), b.2),
  λ b. (bound n).1 (b.0, (those b.0).1 (is_member reached among all b.0 ((is b.0).1 b.1.0), b.1.1), b.2),
)
