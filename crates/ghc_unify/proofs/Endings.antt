-- Each unification in an acyclic finite store comes to an end.
use Rattle.ghc_unify.proofs.Words.{ℕ, zero, suc, ◌-◌, ◌<◌, ◌≤◌, List, [], ◌∷◌, ◌++◌, length, refl, subst, inl, inr, ◌⊎◌, arith, Option, VarName, Tree, variable, StoreValue, value_at, In, Leads, at_free, along, Comes, now, on, Passes, IsAcyclic, name_cmp, with_binding, in_decided, name_decided, chain, met, Move, shared, left, right, both, stay, go, IsClash, IsCycle, with_bindings, Ending, solved, clash, cycle, HasEnding, EachUnificationHasAnEnding, merged, merged_is, merged_acyclic}
use Rattle.std.specs.FinMap as finite
use Rattle.std.specs.FinSet as set
use Rattle.ghc_unify.proofs.Acyclic.{moves_acyclic}
use Rattle.ghc_unify.proofs.Ends.{left_end}
use Rattle.ghc_unify.proofs.Falling.{weights, move_lighter}
use Rattle.ghc_unify.proofs.Partings.{on_chain, passes_in}
use Rattle.ghc_unify.proofs.TopAgreement.{alike, meet_made, alike_decided}
use Rattle.ghc_unify.proofs.Reached.{reaches_decided}
use Rattle.ghc_unify.proofs.Runs.{Run, begins, stays, goes_on, ends, falls_short}
use Rattle.ghc_unify.proofs.Scope.{scope}

-- two chains share a variable, and one is the first, or they share none
abbrev Meeting : (VarName → Option Tree) → Tree → Tree → List VarName → List VarName → Type 0
Meeting T l r xs ys =
    ((a b : List VarName) × (m : VarName) × Comes T l a m × Comes T r b m × ((x : VarName) → In x a → ¬ Passes T r x))
    ⊎ ((x : VarName) → In x xs → ¬ In x ys)

meeting : {T : VarName → Option Tree} {l r e f : Tree} {xs ys : List VarName} → Leads T l xs e → Leads T r ys f → Meeting T l r xs ys
meeting {ys = ys} (at_free {x = z} p) q = elim (in_decided name_decided z ys) [
  | inl i ↦ let c = passes_in q i in inl ([], c.0, z, now, c.1, λ x j. absurd j)
  | inr n ↦ inr (λ x i j. elim i [ inl e ↦ n (subst (λ w. In w ys) e j) | inr k ↦ k ])
]
meeting {ys = ys} (along {x = z} p a) q = elim (in_decided name_decided z ys) [
  | inl i ↦ let c = passes_in q i in inl ([], c.0, z, now, c.1, λ x j. absurd j)
  | inr n ↦ elim (meeting a q) [
    | inl m ↦ inl (z ∷ m.0, m.1, m.2, on p m.3, m.4, λ x j c. elim j [ inl e ↦ n (subst (λ w. In w ys) e (on_chain q c.1)) | inr k ↦ m.5 x k c ])
    | inr m ↦ inr (λ x i j. elim i [ inl e ↦ n (subst (λ w. In w ys) e j) | inr k ↦ m x k j ])
  ]
]
meeting p q = inr (λ x i. absurd i)

-- what becomes of the first equation
data Turn (S T : VarName → Option Tree) (l r : Tree) (es : List (Tree × Tree)) : Type 0 where
  quietly : (fs : List (Tree × Tree)) (rs : List VarName) → Move S T ((l, r) ∷ es) T fs [] rs → Turn S T l r es
  binding : (x : VarName) (t : Tree) (fs : List (Tree × Tree)) (rs : List VarName) → Move S T ((l, r) ∷ es) (with_binding T x t) fs ((x, t) ∷ []) rs → Turn S T l r es
  clashing : IsClash T l r → Turn S T l r es
  cycling : IsCycle T l r → Turn S T l r es

module _ (S : VarName → Option Tree) (s : StoreValue) (acyclic : IsAcyclic (value_at s)) (l r : Tree) (es : List (Tree × Tree)) where
  abbrev T : VarName → Option Tree
  T = value_at s

  turn_by : {xs ys : List VarName} (e f : Tree) → Leads T l xs e → Leads T r ys f → ((z : VarName) → In z xs → ¬ In z ys) → Turn S T l r es
  turn_by (variable x) f p q apart =
      let c = left_end p in
      elim (reaches_decided (finite.len s) s (omega arith) acyclic x r) [
        | inr n ↦ binding x r es (met S c.0) (left c.2 c.3 n)
        | inl reach ↦ cycling (inl (c.0, x, c.2, c.3, λ d. apart x (on_chain p c.2) (on_chain q d.1), reach))
      ]
  turn_by {xs = xs} e (variable y) p q apart =
      let c = left_end q in
      elim (reaches_decided (finite.len s) s (omega arith) acyclic y l) [
        | inr n ↦ binding y l es (met S xs ++ met S c.0) (right p tt c.2 c.3 n)
        | inl reach ↦ cycling (inr (xs, c.0, e, y, p, tt, c.2, c.3, reach))
      ]
  turn_by {xs = xs} {ys = ys} e f p q apart = elim (alike_decided e f) [
    | inl a ↦ let m = meet_made e f a in quietly (m.0 ++ es) (met S xs ++ met S ys) (both p q apart m.1)
    | inr n ↦ clashing (xs, ys, e, f, p, q, tt, tt, apart, λ new m. n (alike m))
  ]

  turn : Turn S T l r es
  turn =
      let p = chain (finite.len s) s (omega arith) acyclic l in
      let q = chain (finite.len s) s (omega arith) acyclic r in
      elim (meeting p.leads q.leads) [
        | inl m ↦ quietly es (met S m.0 ++ met S m.1) (shared m.3 m.4 m.5)
        | inr apart ↦ turn_by p.«end» q.«end» p.leads q.leads apart
      ]

module _ (s : StoreValue) (l r : Tree) (acyclic : IsAcyclic (value_at s)) where
  abbrev S : VarName → Option Tree
  S = value_at s

  abbrev Ended : Type 0
  Ended = (e : Ending) × HasEnding S l r e

  -- how many variables more may be bound
  abbrev room : StoreValue → ℕ
  room binds = length (scope s l r) - finite.len binds

  -- a run with no binding more than these is taken to its end, if each run with fewer to come is
  on_from : (k : ℕ) → ((binds : StoreValue) (reads : set.FinSet name_cmp) (es : List (Tree × Tree)) → Run S l r binds reads es → room binds < k → Ended)
      → (w : ℕ) (binds : StoreValue) (reads : set.FinSet name_cmp) (es : List (Tree × Tree)) → Run S l r binds reads es → room binds ≤ k → weights (merged binds s) es < w → Ended
  on_from k later zero binds reads es run a b = absurd (omega arith)
  on_from k later (suc w) binds reads [] run a b = (solved binds reads, ends run)
  on_from k later (suc w) binds reads (e ∷ es) run a b =
      let still = merged_acyclic binds s (moves_acyclic run.moves acyclic) in
      elim (turn S (merged binds s) still e.0 e.1 es) [
        | quietly fs rs m ↦
            let fall = move_lighter m refl (merged binds s) refl still in
            let n = subst (λ V. Move S V (e ∷ es) V fs [] rs) (merged_is binds s) m in
            on_from k later w binds _ fs (stays run (_, go n stay, refl)) a (omega (arith, fall, b))
        | binding x t fs rs m ↦
            let n = subst (λ V. Move S V (e ∷ es) (with_binding V x t) fs ((x, t) ∷ []) rs) (merged_is binds s) m in
            let more = finite.insert binds x t in
            let after = goes_on run {fs = fs} {grown = set.union reads (set.from_list (rs ++ []))} {after = more} (rs ++ [], go n stay, refl) refl in
            let fall = falls_short s binds x t after refl in
            later more _ fs after.0 (omega (arith, fall, a))
        | clashing c ↦ (clash, (with_bindings binds S, e.0, e.1, es, run.bound, run.read, run.moves, subst (λ V. IsClash V e.0 e.1) (merged_is binds s) c))
        | cycling c ↦ (cycle, (with_bindings binds S, e.0, e.1, es, run.bound, run.read, run.moves, subst (λ V. IsCycle V e.0 e.1) (merged_is binds s) c))
      ]

  to_end : (k : ℕ) (binds : StoreValue) (reads : set.FinSet name_cmp) (es : List (Tree × Tree)) → Run S l r binds reads es → room binds < k → Ended
  to_end zero binds reads es run a = absurd (omega arith)
  to_end (suc k) binds reads es run a = on_from k (to_end k) (suc (weights (merged binds s) es)) binds reads es run (omega arith) (omega arith)

pub each_ending : EachUnificationHasAnEnding
each_ending s l r acyclic =
    let start = begins (value_at s) l r finite.empty set.empty ((l, r) ∷ []) refl refl refl in
    to_end s l r acyclic (suc (room s l r acyclic finite.empty)) finite.empty set.empty ((l, r) ∷ []) start (omega arith)
