-- What a round adds to the record, and that the world is as it was where its passes made no call.
use Rattle.ghc_pool.proofs.Words.{◌≡◌, ℕ, ◌+◌, ◌-◌, ◌<◌, ◌≤◌, List, [], ◌∷◌, ◌++◌, length, sym, ap, ◌∙◌, subst, arith, append-nil, length-append, All, Option, All-head, GoalName, Record, Item, history, NotesByGoal, World, IsStanding, Leaves, reached_legal, leaves_once, Known, newcomers, weight, weight_of_places, places_since, AreEachOnce, weight-one, Spies, Takes}
use mathlib.Core.List.{IsPrefix}
use Rattle.ghc_pool.proofs.AtTheEnd.{adds_at_the_end}
use Rattle.ghc_pool.proofs.RoundPlaces.{AreNewcomers, are_newcomers, newcomers_length}
use Rattle.ghc_shared.proofs.PlacesOnce.{numbers_length}

-- so many records more are kept as steps were taken
pub kept_count : (workers : ℕ) (spies : Spies) (root : Option GoalName) (w v : World) (before after : NotesByGoal) (steps : List Record) → Takes workers spies root w before steps v after → length v.kept ≡ length w.kept + length steps
kept_count workers spies root w v before after steps taken =
    let adds = adds_at_the_end workers spies root w before v after steps taken in
    omega (arith, ap (λ (l : List Record). length l) adds.kept, length-append w.kept steps)

no_places : (h : ℕ → ℕ) (items : List Item) (ps : List (Known Item)) → AreNewcomers items ps → weight_of_places h ps ≡ 0
no_places h items [] new = omega arith
no_places h items (p ∷ ps) new = omega (arith, ap (λ l. weight h l) new.1, no_places h items ps new.2)

begun : (items whole : List Item) (ps : List (Known Item)) → AreNewcomers items ps → All (λ p. IsPrefix p.front whole) ps → 0 < length ps → IsPrefix items whole
begun items whole [] new begins some = absurd (omega (arith, some))
begun items whole (p ∷ ps) new begins some = subst (λ (l : List Item). IsPrefix l whole) new.0 (All-head (λ (q : Known Item). IsPrefix q.front whole) p ps begins)

all_of_it : (items rest whole : List Item) → items ++ rest ≡ whole → length whole ≤ length items → items ≡ whole
all_of_it items [] whole e short = sym (append-nil items) ∙ e
all_of_it items (x ∷ rest) whole e short = absurd (omega (arith, short, ap (λ (l : List Item). length l) e, length-append items (x ∷ rest)))

pub unworked : (w v : World) (passes : ℕ) (nows : List (Known Item)) → IsStanding w → IsStanding v → 0 < passes → nows ≡ newcomers (history w.opening w.journal) passes
    → All (λ p. IsPrefix p.front (history v.opening v.journal)) nows → AreEachOnce nows (places_since (length (history w.opening w.journal)) (history v.opening v.journal)) → w ≡ v
unworked w v passes nows stands ends some is begins once =
    let start = history w.opening w.journal in
    let whole = history v.opening v.journal in
    let new = subst (AreNewcomers start) (sym is) (are_newcomers start passes) in
    let first = begun start whole nows new begins (omega (arith, some, ap (λ l. length l) is, newcomers_length start passes)) in
    let none = no_places (λ _. 1) start nows new in
    let left = numbers_length (length start) (length whole - length start) in
    let same = all_of_it start first.0 whole first.1 (omega (arith, none, once (λ _. 1), weight-one (places_since (length start) whole), left)) in
    leaves_once whole w v (subst (λ (l : List Item). Leaves l w) same (reached_legal stands)) (reached_legal ends)
