-- An undo and a step make a square; and undoing ends.
use Rattle.ghc_depend.proofs.Words.{◌≡◌, ◌⊎◌, ◌≤◌, List, [], ◌∷◌, ◌++◌, length, sym, subst, inl, inr, arith, In, in_left, Record, nothing, leave, is_before, before_is, picks_once, Replays, records_distinct, DependsOn, Follows, directly, further, IsWithout}
use Rattle.ghc_records.specs.Orders.{take}
use Rattle.ghc_depend.specs.Laws.{UndoAndStepSquare, UndoingEnds}
use Rattle.ghc_depend.proofs.Picking.{before_last, pick_last, distinct_split}
use Rattle.ghc_depend.proofs.Undoing.{undone}

-- with one step more at the end, nothing depends on a but what did, and that step
depends_last : (kept : List Record) (a b c : Record) → DependsOn (kept ++ b ∷ []) c a → DependsOn kept c a ⊎ (c ≡ b)
depends_last kept a b c d = elim (before_last kept b a c (is_before (kept ++ b ∷ []) a c d.0)) [ inl h ↦ inl (before_is kept a c h, d.1) | inr p ↦ inr p.1 ]

still_free : (kept : List Record) (a b : Record) → ((c : Record) → ¬ Follows kept a c) → ¬ DependsOn (kept ++ b ∷ []) b a → (c : Record) → ¬ Follows (kept ++ b ∷ []) a c
still_free kept a b free apart c (directly d) = elim (depends_last kept a b c d) [
  | inl e ↦ free c (directly e)
  | inr same ↦ apart (subst (λ z. DependsOn (kept ++ b ∷ []) z a) same d)
]
still_free kept a b free apart c (further {b = m} f d) = still_free kept a b free apart m f

pub undo_and_step : UndoAndStepSquare
undo_and_step P query kept left a b t accepted asked i free w replay apart =
    let all = kept ++ b ∷ [] in
    let new : ¬ In b kept = distinct_split kept b [] (records_distinct all replay.0.1) in
    let both = pick_last kept left b w (λ same. new (subst (λ z. In z kept) (sym same) i)) in
    let none = still_free kept a b free apart in
    let u = undone P query all t a accepted asked replay (in_left kept (b ∷ []) a i) none in
    record {
      possible = (u.1, subst (λ z. Replays P query z u.1) (picks_once all u.0 (left ++ b ∷ []) u.2 both) u.3);
      free = none;
      both_ways = both;
    }

no_more_left : (kept left : List Record) (a : Record) → IsWithout kept a left → length left ≤ length kept
no_more_left [] left a nothing = omega arith
no_more_left (r ∷ kept) left a (take n p) = let rest = no_more_left kept _ a p in omega arith
no_more_left (r ∷ kept) left a (leave n p) = let rest = no_more_left kept left a p in omega arith

pub undoing : UndoingEnds
undoing [] left a i w = absurd i
undoing (r ∷ kept) left a (inl e) (take n p) = absurd (n (sym e))
undoing (r ∷ kept) left a (inl e) (leave n p) = let rest = no_more_left kept left a p in omega arith
undoing (r ∷ kept) left a (inr i) (take n p) = let rest = undoing kept _ a i p in omega arith
undoing (r ∷ kept) left a (inr i) (leave n p) = let rest = undoing kept left a i p in omega arith
