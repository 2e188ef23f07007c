-- What follows from a step of a part is found among the causes.
use Rattle.ghc_trace.proofs.Words.{◌⊎◌, ℕ, List, refl, sym, subst, inl, inr, VarName, In, AreDistinct, Record, numbers, number_in, record_once, picks_in, picks_has, DependsOn, StepBinds}
use Rattle.ghc_records.proofs.OrderLemmas.{number_of}
use Rattle.ghc_depend.proofs.Finding.{ends}
use Rattle.ghc_depend.specs.Depend.{Follows, directly, further}
use Rattle.ghc_records.specs.Uses.{Binds}
use Rattle.ghc_depend.specs.Slices.{IsCauseOf, root, cause}
use Rattle.ghc_trace.specs.Causes.{AreBindersOf, IsNumbered, IsSliceTold}
use Rattle.ghc_trace.specs.inner.PartsCode.{OneFollows}

module _ (kept : List Record) (roots : List ℕ) where
  abbrev Causes : Record → Type 0
  Causes = IsCauseOf kept (IsNumbered roots)

  -- what a cause follows from is a cause
  behind : (q r : Record) → Follows kept q r → Causes r → Causes q
  behind q r (directly d) c = cause c d
  behind q r (further {b = b} f d) c = behind q b f (cause c d)

  on : (q b r : Record) → DependsOn kept b q → Follows kept b r → Follows kept q r
  on q b r d (directly e) = further (directly d) e
  on q b r d (further {b = m} f e) = further (on q b m d f) e

  -- a cause is one of the roots, or a root follows from it
  root_or : (q : Record) → Causes q → In q.number roots ⊎ ((r : Record) × In r kept × In r.number roots × Follows kept q r)
  root_or q (root i) = inl i
  root_or q (cause {b = b} c d) = elim (root_or b c) [
    | inl i ↦ inr (b, (ends kept b q d).1, i, directly d)
    | inr p ↦ inr (p.0, p.1, p.2, on q b p.0 d p.3)
  ]

module _ (kept : List Record) (distinct : AreDistinct (numbers kept)) (ns : List ℕ) (xs : List VarName) (outside : (x : VarName) (n : ℕ) → In x xs → StepBinds kept n x → ¬ In n ns)
    (binders told : List ℕ) (bound : AreBindersOf kept (λ x. In x xs) binders) (slice : IsSliceTold kept binders told) where
  -- a step of the slice that has one of the numbers is one from which a binder follows
  pub follows : (n : ℕ) → In n told → In n ns → OneFollows kept ns xs
  follows n i j =
      let q = number_of slice.0 n (subst (In n) (sym slice.2) i) in
      let picked = picks_in kept slice.0 q.0 slice.1 q.1 in
      elim (root_or kept binders q.0 picked.1) [
        | inl m ↦ let b = (bound q.0.number).0 m in absurd (outside b.0 q.0.number b.1 b.2 (subst (λ k. In k ns) (sym q.2) j))
        | inr p ↦
            let b = (bound p.0.number).0 p.2 in
            let s = b.2 in
            let one = record_once kept s.0 p.0 distinct s.1 p.1 s.2 in
            (b.0, p.0, q.0, b.1, p.1, subst (λ z. Binds z b.0) one s.3, picked.0, subst (λ k. In k ns) (sym q.2) j, p.3)
      ]

  -- and each such step stands in the slice
  pub in_slice : OneFollows kept ns xs → (n : ℕ) × In n told × In n ns
  in_slice (x, r, q, i, kept_r, binds, kept_q, number, f) =
      let is_root = (bound r.number).1 (x, i, (r, kept_r, refl, binds)) in
      let is_cause = behind kept binders q r f (root is_root) in
      elim (picks_has kept slice.0 q slice.1 kept_q) [
        | inl j ↦ (q.number, subst (In q.number) slice.2 (number_in slice.0 q j), number)
        | inr n ↦ absurd (n is_cause)
      ]
