-- The steps that gave a variable its term, or a goal what it looks at, by their numbers, and the slice that these have.
use Rattle.ghc_trace.proofs.Words.{◌≡◌, ◌⊎◌, ℕ, List, [], ◌∷◌, ◌++◌, refl, sym, ◌∙◌, subst, inl, inr, ◌↔◌, Option, Some, None, is_some, true, false, VarName, Tree, Goal, call, unify, assign, stream, In, in_left, in_last, in_more, AreDistinct, Program, is_stream, Record, numbers, SlotList, held_in, stands_held, record_once, Picks, nothing, leave, picks_in, picks_has, StepBinds, is_member, has_member}
use Rattle.std.specs.FinSet as set
use Rattle.ghc_term.specs.Sets.{Variables, IsSetOf}
use Rattle.ghc_match.specs.Looked.{GoalLooksAt}
use Rattle.ghc_records.proofs.SlotLemmas.{held_stands}
use Rattle.ghc_records.specs.Orders.{take as taken}
use Rattle.ghc_records.specs.Uses.{Binds}
use Rattle.ghc_depend.proofs.Finding.{ends}
use Rattle.ghc_depend.proofs.Picking.{pick}
use Rattle.ghc_depend.specs.inner.Sources.{IsPlaceOfOne}
use Rattle.ghc_depend.specs.Deletion.{IsPartedBy}
use Rattle.ghc_depend.specs.Slices.{IsCauseOf, root, cause}
use Rattle.ghc_trace.specs.Causes.{AreBindersOf, IsNumbered, IsSliceTold}

-- causes by roots that are the same
cause_as : (kept : List Record) {Q R : Record → Type 0} → ((r : Record) → In r kept → Q r → R r) → {r : Record} → IsCauseOf kept Q r → In r kept → IsCauseOf kept R r
cause_as kept h (root {r = r} q) i = root (h r i q)
cause_as kept h (cause {a = a} {b = b} c d) i = cause (cause_as kept h c (ends kept b a d).1) d

pub picks_as : {Q R : Record → Type 0} (xs ys : List Record) → ((r : Record) → In r xs → Q r ↔ R r) → Picks Q xs ys → Picks R xs ys
picks_as [] ys h nothing = nothing
picks_as (x ∷ xs) ys h (taken q p) = taken ((h x (inl refl)).0 q) (picks_as xs _ (λ r i. h r (inr i)) p)
picks_as (x ∷ xs) ys h (leave n p) = leave (λ r. n ((h x (inl refl)).1 r)) (picks_as xs ys (λ r i. h r (inr i)) p)

-- these numbers are those of the kept steps of which R holds
abbrev pub AreNumbersOf : List Record → (Record → Type 0) → List ℕ → Type 0
AreNumbersOf kept R ns = (r : Record) → In r kept → In r.number ns ↔ R r

-- the slice listed for these numbers is that of these steps
pub told_slice : (kept : List Record) (R : Record → Type 0) (ns told : List ℕ) → AreNumbersOf kept R ns → IsSliceTold kept ns told
    → (found rest : List Record) × IsPartedBy kept (IsCauseOf kept R) found rest × (numbers found ≡ told)
told_slice kept R ns told given s =
    let both : (r : Record) → In r kept → IsCauseOf kept (IsNumbered ns) r ↔ IsCauseOf kept R r = λ r i. (λ c. cause_as kept (λ q j. (given q j).0) c i, λ c. cause_as kept (λ q j. (given q j).1) c i) in
    let picked = picks_as kept s.0 both s.1 in
    let rest = pick kept (λ r i. elim (picks_has kept s.0 r picked i) [ inl j ↦ inr (λ n. n (picks_in kept s.0 r picked j).1) | inr n ↦ inl n ]) in
    (s.0, rest.0, (picked, rest.1), s.2)

module _ (kept : List Record) where
  module _ (ys : List VarName) (y : VarName) (ns : List ℕ) (h : AreBindersOf kept (λ z. In z ys) ns) (binder : Option ℕ) (bound : (n : ℕ) → (binder ≡ Some n) ↔ StepBinds kept n y) where
    pub binders_still : binder ≡ None → AreBindersOf kept (λ z. In z (ys ++ y ∷ [])) ns
    binders_still e n = (
      λ i. let b = (h n).0 i in (b.0, in_left ys (y ∷ []) b.0 b.1, b.2),
      λ b. elim (in_more ys y b.0 b.1) [
        | inl i ↦ (h n).1 (b.0, i, b.2)
        | inr same ↦ let clash : None ≡ Some n = sym e ∙ (bound n).1 (subst (StepBinds kept n) same b.2) in cc
      ],
    )

    pub binders_more : (m : ℕ) → binder ≡ Some m → AreBindersOf kept (λ z. In z (ys ++ y ∷ [])) (ns ++ m ∷ [])
    binders_more m e n = (
      λ i. elim (in_more ns m n i) [
        | inl j ↦ let b = (h n).0 j in (b.0, in_left ys (y ∷ []) b.0 b.1, b.2)
        | inr same ↦ (y, in_last ys y, subst (λ k. StepBinds kept k y) (sym same) ((bound m).0 e))
      ],
      λ b. elim (in_more ys y b.0 b.1) [
        | inl i ↦ in_left ns (m ∷ []) n ((h n).1 (b.0, i, b.2))
        | inr same ↦
            let one : Some m ≡ Some n = sym e ∙ (bound n).1 (subst (StepBinds kept n) same b.2) in
            let number : m ≡ n = cc in
            subst (λ k. In k (ns ++ m ∷ [])) number (in_last ns m)
      ],
    )

  -- those of the members of a set are those of its property
  pub binders_of_set : (Q : VarName → Type 0) (xs : Variables) (ys : List VarName) (ns : List ℕ) → set.from_list ys ≡ xs → IsSetOf xs Q → AreBindersOf kept (λ z. In z ys) ns → AreBindersOf kept Q ns
  binders_of_set Q xs ys ns all is h n = (
    λ i. let b = (h n).0 i in (b.0, (is b.0).0 (has_member xs ys all b.0 b.1), b.2),
    λ b. (h n).1 (b.0, is_member xs ys all b.0 ((is b.0).1 b.1), b.2),
  )

module _ (ss : SlotList) (distinct : AreDistinct (numbers (held_in ss))) (Q : VarName → Type 0) (Made : Record → Type 0) (maker : ℕ) (by_maker : (r : Record) → Made r → maker ≡ r.number) (ns : List ℕ)
    (h : AreBindersOf (held_in ss) Q ns) where
  -- it bound a variable of which Q holds, or made what is asked about
  abbrev pub HasGiven : Record → Type 0
  HasGiven r = ((y : VarName) × Q y × Binds r y) ⊎ Made r

  bound_it : (r : Record) → In r (held_in ss) → In r.number ns → HasGiven r
  bound_it r i j =
      let b = (h r.number).0 j in
      let s = b.2 in
      inl (b.0, b.1, subst (λ z. Binds z b.0) (record_once (held_in ss) s.0 r distinct s.1 i s.2) s.3)

  among_binders : (r : Record) → In r (held_in ss) → (y : VarName) → Q y → Binds r y → In r.number ns
  among_binders r i y q b = (h r.number).1 (y, q, (r, i, refl, b))

  -- where no kept step made it
  givers_bound : IsPlaceOfOne ss Made None → AreNumbersOf (held_in ss) HasGiven ns
  givers_bound none r i = (
    bound_it r i,
    λ g. elim g [
      | inl b ↦ among_binders r i b.0 b.1 b.2
      | inr m ↦ let at = held_stands ss r i in absurd (none at.0 r at.1 m)
    ],
  )

  -- and where one did
  givers_made : (p : ℕ) → IsPlaceOfOne ss Made (Some p) → AreNumbersOf (held_in ss) HasGiven (ns ++ maker ∷ [])
  givers_made p one r i = (
    λ j. elim (in_more ns maker r.number j) [
      | inl k ↦ bound_it r i k
      | inr e ↦
          let a = one.0 in
          let same : a.0 ≡ r = record_once (held_in ss) a.0 r distinct (stands_held ss p a.0 a.1) i (sym (by_maker a.0 a.2) ∙ sym e) in
          inr (subst Made same a.2)
    ],
    λ g. elim g [
      | inl b ↦ in_left ns (maker ∷ []) r.number (among_binders r i b.0 b.1 b.2)
      | inr m ↦ subst (λ k. In k (ns ++ maker ∷ [])) (by_maker r m) (in_last ns maker)
    ],
  )

  -- with the maker, where there is one
  pub givers_end : (place : Option ℕ) → IsPlaceOfOne ss Made place → (new : List ℕ) → (is_some place ≡ true → new ≡ ns ++ maker ∷ []) → (is_some place ≡ false → new ≡ ns) → AreNumbersOf (held_in ss) HasGiven new
  givers_end None none new made still = subst (AreNumbersOf (held_in ss) HasGiven) (sym (still refl)) (givers_bound none)
  givers_end (Some p) one new made still = subst (AreNumbersOf (held_in ss) HasGiven) (sym (made refl)) (givers_made p one)

-- the same, where the two ways change places
pub turned : (kept : List Record) {A B : Record → Type 0} (ns : List ℕ) → AreNumbersOf kept (λ r. A r ⊎ B r) ns → AreNumbersOf kept (λ r. B r ⊎ A r) ns
turned kept ns h r i = (λ j. elim ((h r i).0 j) [ inl a ↦ inr a | inr b ↦ inl b ], λ c. (h r i).1 (elim c [ inl b ↦ inr b | inr a ↦ inl a ]))

-- a stream goal looks at nothing
pub no_looks : (kept : List Record) (P : Program) (S : VarName → Option Tree) (b : Goal) → is_stream b ≡ true → AreBindersOf kept (GoalLooksAt P S b) []
no_looks kept P S (call f ts) e n = cc
no_looks kept P S (unify l r) e n = cc
no_looks kept P S (assign t a) e n = cc
no_looks kept P S (stream k x) e n = (λ i. absurd i, λ q. absurd q.1)
