-- Moves up to the next binding, where an equation of two variables that was met is dropped.
use Rattle.ghc_unify.proofs.Words.{◌≡◌, Bool, true, false, ◌||◌, List, [], ◌∷◌, ◌++◌, refl, sym, ap, ◌∙◌, subst, Option, reverse, VarName, Tree, variable, IsAcyclic, In, name_cmp, name_total, name_antisymmetric, in_set, set_in, Move, Moves}
use Rattle.std.specs.FinSet as set
use Rattle.ghc_unify.specs.inner.Met.{IsPairOf, IsNoted}
use Rattle.ghc_unify.proofs.Advancing.{Quiet, top}
use Rattle.ghc_unify.proofs.Falling.{one_more_move}
use Rattle.ghc_unify.proofs.Growth.{union_append}
use Rattle.ghc_unify.proofs.MetPairs.{Within, Grows, Front, front, front_moves, Met, all_met, again}

-- no binding so far, and each of the pairs was met
pub record Paired (S T : VarName → Option Tree) (first es : List (Tree × Tree)) (init reads : set.FinSet name_cmp) (pairs : List (VarName × VarName)) : Type 0 where
  pub quiet : Quiet S T first es init reads
  pub met : (p : VarName × VarName) → In p pairs → Met S T reads es p

or_left : (b c : Bool) → b ≡ true → (b || c) ≡ true
or_left true c e = refl
or_left false c e = cc

or_right : (b c : Bool) → c ≡ true → (b || c) ≡ true
or_right true c e = refl
or_right false c e = e

or_within : (b c : Bool) → (c ≡ true → b ≡ true) → b ≡ (b || c)
or_within true c h = refl
or_within false true h = h refl
or_within false false h = refl

union_grows : (s : set.FinSet name_cmp) (xs : List VarName) → Grows s (set.union s (set.from_list xs))
union_grows s xs x i = set.contains-union name_total s (set.from_list xs) x ∙ or_left (set.contains s x) (set.contains (set.from_list {R = name_cmp} xs) x) i

within_union : (s : set.FinSet name_cmp) (xs : List VarName) → Within xs (set.union s (set.from_list xs))
within_union s xs x i = set.contains-union name_total s (set.from_list xs) x ∙ or_right (set.contains s x) (set.contains (set.from_list {R = name_cmp} xs) x) (in_set x xs i)

-- what is in the set adds nothing
union_within : (s : set.FinSet name_cmp) (xs : List VarName) → Within xs s → s ≡ set.union s (set.from_list xs)
union_within s xs w = set.same_set name_total name_antisymmetric _ _ (λ q.
    or_within (set.contains s q) (set.contains (set.from_list {R = name_cmp} xs) q) (λ i. w q (set_in q xs i)) ∙ sym (set.contains-union name_total s (set.from_list xs) q))

-- moves more that bind nothing
module _ {S T : VarName → Option Tree} {first es : List (Tree × Tree)} {init reads : set.FinSet name_cmp} (q : Quiet S T first es init reads) where
  quiet_on : {fs : List (Tree × Tree)} {grown : set.FinSet name_cmp} {rs : List VarName} → Moves S T es T fs [] rs → grown ≡ set.union reads (set.from_list rs) → Quiet S T first fs init grown
  quiet_on {rs = rs} m g = record {
    read = q.read ++ rs;
    moves = one_more_move q.moves m;
    reads_are = g ∙ ap (λ z. set.union z (set.from_list rs)) q.reads_are ∙ union_append init q.read rs;
  }

front_first : {S T : VarName → Option Tree} {d : Tree × Tree} {es rest fs : List (Tree × Tree)} {rs : List VarName} (f : Front S T es fs rs) → es ≡ d ∷ rest → f.first ≡ d
front_first {d = d} {rest = rest} f e = let q = sym f.es_are ∙ e in cc

module _ {S T : VarName → Option Tree} {first items : List (Tree × Tree)} (rest : List (Tree × Tree)) {init reads : set.FinSet name_cmp} {l r : Tree} {old new : List (VarName × VarName)}
    (q : Paired S T first (reverse items) init reads old) (e : items ≡ rest ++ (l, r) ∷ []) (n : IsNoted l r old new) where
  paired_by : {fs : List (Tree × Tree)} {grown : set.FinSet name_cmp} {rs : List VarName} → Front S T (reverse items) fs rs → Grows reads grown → Within rs grown
      → grown ≡ set.union reads (set.from_list rs) → Paired S T first fs init grown new
  paired_by f grow within g = record {
    quiet = quiet_on q.quiet (front_moves f) g;
    met = all_met reads _ f grow within old new (front_first f (top rest q.quiet e)) n q.met;
  }

  -- after a move
  pub still_paired : {fs : List (Tree × Tree)} {grown : set.FinSet name_cmp}
      → (rs : List VarName) × Move S T ((l, r) ∷ reverse rest) T fs [] rs × (grown ≡ set.union reads (set.from_list rs)) → Paired S T first fs init grown new
  still_paired {fs = fs} s =
      let f = front (subst (λ z. Move S T z T fs [] s.0) (sym (top rest q.quiet e)) s.1) refl in
      paired_by f (λ x i. rw s.2 (union_grows reads s.0 x i)) (λ x i. rw s.2 (within_union reads s.0 x i)) s.2

  -- after an equation that was dropped
  pub dropped : IsAcyclic T → IsPairOf l r old → Paired S T first (reverse rest) init reads new
  dropped acyclic p =
      let is : (l, r) ∷ reverse rest ≡ (variable p.0.0, variable p.0.1) ∷ reverse rest = ap (λ z. (z, r) ∷ reverse rest) p.2.0 ∙ ap (λ z. (variable p.0.0, z) ∷ reverse rest) p.2.1 in
      let a = again reads acyclic p.0 (reverse rest) (top rest q.quiet e ∙ is) (q.met p.0 p.1) in
      paired_by a.1 (λ x i. i) a.2 (union_within reads a.0 a.2)
