-- The store that the steps of a slice leave is what they bound.
use Rattle.ghc_trace.proofs.Words.{◌≡◌, ◌⊎◌, ◌↔◌, ℕ, ◌+◌, ◌<◌, List, [], ◌∷◌, ◌++◌, length, get_or, take, refl, sym, ap, ◌∙◌, subst, inl, inr, is_some, map-append, take_more, keys_of, in_any, any_in, In, in_left, in_last, in_more, VarName, Tree, name_total, StoreValue, value_at, Program, Query, State, Record, numbers, AreDistinct, Replays, number_in, record_once, Binds, StepBinds}
use Rattle.std.specs.FinMap as finite
use Rattle.ghc_term.proofs.Names.{name_antisymmetric}
use Rattle.ghc_records.proofs.OrderLemmas.{number_of}
use Rattle.ghc_depend.proofs.Comparing.{bound_value}
use Rattle.ghc_depend.proofs.Finding.{by_option, find_value, not_both}
use Rattle.ghc_depend.proofs.Placing.{results_of}
use Rattle.ghc_trace.specs.inner.PartsCode.{AreKeptAs, BindsAlone}
use Rattle.ghc_trace.proofs.Disturbing.{is_key}

-- the names of the bindings of a step are what it bound
pub bound_names : (r : Record) (es : List (VarName × Tree)) → finite.from_entries es ≡ r.effect.binds → (x : VarName) → In x (keys_of es) ↔ Binds r x
bound_names r es e x = (
  λ i. ap (λ m. finite.contains_key m x) (sym e) ∙ is_key es x ∙ in_any x (keys_of es) i,
  λ b. any_in x (keys_of es) (sym (is_key es x) ∙ ap (λ m. finite.contains_key m x) e ∙ b),
)

-- the name of one binding more
pub keys_more : (es : List (VarName × Tree)) (i : ℕ) (b : VarName × Tree) → i < length es → b ≡ get_or es i b → keys_of (take (i + 1) es) ≡ keys_of (take i es) ++ b.0 ∷ []
keys_more es i b within is =
    ap keys_of (take_more es i b within ∙ ap (λ z. take i es ++ z ∷ []) (sym is)) ∙ map-append (λ (e : VarName × Tree). e.0) (take i es) (b ∷ [])

-- these are the variables that the kept steps of these numbers bound
abbrev pub AreBoundBy : List Record → List ℕ → List VarName → Type 0
AreBoundBy kept ns xs = (x : VarName) → In x xs ↔ ((n : ℕ) × In n ns × StepBinds kept n x)

-- with one step more
pub bound_more : (kept : List Record) (ns : List ℕ) (n : ℕ) (r : Record) (old new : List VarName) → AreDistinct (numbers kept) → In r kept → r.number ≡ n → AreBoundBy kept ns old
    → ((x : VarName) → In x new ↔ (In x old ⊎ Binds r x)) → AreBoundBy kept (ns ++ n ∷ []) new
bound_more kept ns n r old new once there number so_far more x = (
  λ i. elim ((more x).0 i) [
    | inl j ↦ let q = (so_far x).0 j in (q.0, in_left ns (n ∷ []) q.0 q.1, q.2)
    | inr b ↦ (n, in_last ns n, (r, there, number, b))
  ],
  λ q. (more x).1 (elim (in_more ns n q.0 q.1) [
    | inl j ↦ inl ((so_far x).1 (q.0, j, q.2))
    | inr same ↦ let s = q.2 in inr (subst (λ z. Binds z x) (record_once kept s.0 r once s.1 there (s.2 ∙ same ∙ sym number)) s.3)
  ]),
)

-- what a replay of these steps leaves
pub store_left : (P : Program) (query : Query) (kept rs : List Record) (t u : State) (ns : List ℕ) (xs : List VarName) (left : StoreValue) → Replays P query kept t → Replays P query rs u → AreKeptAs kept rs ns
    → AreBoundBy kept ns xs → BindsAlone xs (value_at t.store) (value_at left) → u.store ≡ left
store_left P query kept rs t u ns xs left replay again are bound alone =
    let whole = results_of P query kept t replay in
    let some = results_of P query rs u again in
    finite.same_map name_total name_antisymmetric u.store left (λ x. elim (find_value (λ (r : Record). value_at r.effect.binds x) rs) [
      | inl p ↦
          let there = are.within p.0 p.2 in
          let i : In x xs = (bound x).1 (p.0.number, subst (In p.0.number) are.numbered (number_in rs p.0 p.2), (p.0, there, refl, ap is_some p.3)) in
          some.bound p.0 x p.1 p.2 p.3 ∙ sym (whole.bound p.0 x p.1 there p.3) ∙ sym (alone.those x i)
      | inr none ↦ some.unbound x none ∙ sym (by_option (value_at left x) (λ n. n) (λ c e.
          let b = (bound x).0 (alone.only x c e) in
          let s = b.2 in
          let q = number_of rs b.0 (subst (In b.0) (sym are.numbered) b.1) in
          let one = record_once kept s.0 q.0 replay.0.1 s.1 (are.within q.0 q.1) (s.2 ∙ sym q.2) in
          let v = bound_value q.0 x (subst (λ z. Binds z x) one s.3) in
          absurd (not_both v.1 (none q.0 q.1))))
    ])
