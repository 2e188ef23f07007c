-- Goals lose their notes one by one, and are untried again.
use Rattle.ghc_hooks.proofs.Words.{◌≡◌, ℕ, ◌≤◌, ◌<◌, ◌+◌, List, [], ◌∷◌, length, get_or, take, refl, sym, ap, subst, ◌∙◌, inl, inr, ◌⊎◌, arith, ◌↔◌, Option, Some, None, IsTrue, IfSome, IfNone, slice_get, VarName, GoalName, In, in_at, Note, NotesByGoal, Tries, HasLookedAt, AreSpared, AreWoken, some_decided, true_decided}
use Rattle.std.specs.FinMap as finite
use Rattle.std.specs.FinSet as set
use Rattle.ghc_hooks.proofs.Looking.{goal_put, goal_cases}
use Rattle.ghc_hooks.proofs.LookingAll.{so_far, earlier, latest}
use Rattle.ghc_hooks.proofs.Fitting.{gone_here, gone_elsewhere, same_note}
use Rattle.ghc_hooks.proofs.Changing.{still_noted, still_none}

-- the first of a list
pub first_is : (P : GoalName → Type 0) (gs : List GoalName) → ((g : GoalName) → In g gs → P g) → (o : Option GoalName) → o ≡ slice_get gs 0 → IfSome o P
first_is P gs h (Some g) e = h g (in_at gs 0 g (sym e))
first_is P gs h None e = tt

pub first_is_none : {Q : Type 0} (gs : List GoalName) → (gs ≡ [] → Q) → (o : Option GoalName) → o ≡ slice_get gs 0 → IfNone o Q
first_is_none gs h (Some g) e = tt
first_is_none [] h None e = h refl
first_is_none (k ∷ gs) h None e = let clash : None ≡ Some k = e in absurd (cc)

-- what has become of the tries old when some goals that looked at x lost their notes
pub record IsWaking (x : VarName) (old now : Tries) : Type 0 where
  pub kept : (g : GoalName) (n : Note) → finite.get now.notes g ≡ Some n → finite.get old.notes g ≡ Some n
  pub lost : (g : GoalName) (n : Note) → finite.get old.notes g ≡ Some n → (finite.get now.notes g ≡ Some n) ⊎ IsTrue (set.contains n.looked x)
  pub woken : (g : GoalName) → IsTrue (set.contains now.untried g) ↔ (IsTrue (set.contains old.untried g) ⊎ (HasLookedAt old.notes x g × (finite.get now.notes g ≡ None)))
  pub room : old.room ≤ now.room

pub starts : (x : VarName) (t : Tries) → IsWaking x t t
starts x t = record {
  kept = λ g n h. h;
  lost = λ g n h. inl h;
  woken = λ g. (λ k. inl k, λ k. elim k [ inl a ↦ a | inr p ↦ let clash : None ≡ Some p.0.0 = sym p.1 ∙ p.0.1 in absurd (cc) ]);
  room = omega arith;
}

pub goes_on : (x : VarName) (old now new : Tries) (g : GoalName) → IsWaking x old now → HasLookedAt now.notes x g → new.notes ≡ finite.remove now.notes g → new.untried ≡ set.insert now.untried g → now.room ≤ new.room → IsWaking x old new
goes_on x old now new g w looked e u room =
    let at : (h : GoalName) → finite.get new.notes h ≡ finite.get (finite.remove now.notes g) h = λ h. ap (λ m. finite.get m h) e in
    record {
      kept = λ h n k. w.kept h n (still_noted now.notes g h n (sym (at h) ∙ k));
      lost = λ h n k.
          let looked_too : h ≡ g → finite.get now.notes h ≡ Some n → IsTrue (set.contains n.looked x) = λ p a.
          (let same : looked.0 ≡ n = same_note (sym looked.1 ∙ ap (finite.get now.notes) (sym p) ∙ a) in
          ap (λ z. set.contains z.looked x) (sym same) ∙ looked.2) in
          grind (arith, w.lost h n k, goal_cases h g, gone_elsewhere now.notes g h, at h);
      woken = λ h.
          let this_one : h ≡ g → HasLookedAt old.notes x h × (finite.get new.notes h ≡ None) = λ p. (
            (looked.0, w.kept h looked.0 (ap (finite.get now.notes) p ∙ looked.1), looked.2),
            at h ∙ ap (finite.get (finite.remove now.notes g)) p ∙ gone_here now.notes g,
          ) in
          let put = goal_put now.untried g h in
          let is = ap (λ s. set.contains s h) u in
          grind (arith, w.woken h, goal_cases h g, gone_elsewhere now.notes g h, still_none now.notes g h, at h);
      room = let before = w.room in omega (arith, before, room);
    }

-- a note is there or not
has_note : (m : NotesByGoal) (g : GoalName) → ((n : Note) × (finite.get m g ≡ Some n)) ⊎ (finite.get m g ≡ None)
has_note m g = by (finite.get m g) refl where
  by : (o : Option Note) → finite.get m g ≡ o → ((n : Note) × (finite.get m g ≡ Some n)) ⊎ (finite.get m g ≡ None)
  by (Some n) e = inl (n, e)
  by None e = inr e

module _ (x : VarName) (old now : Tries) (w : IsWaking x old now) (done : (g : GoalName) → ¬ HasLookedAt now.notes x g) where
  pub spared : AreSpared (λ y. y ≡ x) old.notes now.notes
  spared g n = (
    λ k. (w.kept g n k, λ y e l. done g (n, k, ap (λ z. set.contains n.looked z) (sym e) ∙ l)),
    λ k. elim (w.lost g n k.0) [ inl a ↦ a | inr l ↦ absurd (k.1 x refl l) ],
  )

  pub woken : AreWoken (λ y. y ≡ x) old.notes old.untried now.untried
  woken g = (
    λ k. elim ((w.woken g).0 k) [ inl a ↦ inl a | inr p ↦ inr (x, refl, p.0) ],
    λ k. (w.woken g).1 (elim k [
      | inl a ↦ inl a
      | inr p ↦
          let looked : HasLookedAt old.notes x g = subst (λ y. HasLookedAt old.notes y g) p.1 p.2 in
          elim (has_note now.notes g) [
            | inl n ↦
                let same : looked.0 ≡ n.0 = same_note (sym looked.1 ∙ w.kept g n.0 n.1) in
                absurd (done g (n.0, n.1, ap (λ z. set.contains z.looked x) (sym same) ∙ looked.2))
            | inr none ↦ inr (looked, none)
          ]
    ]),
  )

-- and so for the variables of a list, one after another
module _ (old now new : Tries) (xs : List VarName) (i : ℕ) (d : VarName) (within : i < length xs) where
  pub spared_next : AreSpared (λ y. In y (take i xs)) old.notes now.notes → AreSpared (λ y. y ≡ get_or xs i d) now.notes new.notes → AreSpared (λ y. In y (take (i + 1) xs)) old.notes new.notes
  spared_next before step g n = (
    λ k.
        let s = (step g n).0 k in
        let b = (before g n).0 s.0 in
        (b.0, λ y j. elim (so_far xs i d within y j) [ inl e ↦ b.1 y e | inr e ↦ s.1 y e ]),
    λ k. (step g n).1 ((before g n).1 (k.0, λ y j. k.1 y (earlier xs i d within y j)), λ y e. k.1 y (latest xs i d within y e)),
  )

  pub woken_next : AreSpared (λ y. In y (take i xs)) old.notes now.notes → AreWoken (λ y. In y (take i xs)) old.notes old.untried now.untried → AreWoken (λ y. y ≡ get_or xs i d) now.notes now.untried new.untried
      → AreWoken (λ y. In y (take (i + 1) xs)) old.notes old.untried new.untried
  woken_next left before step g = (
    λ k. elim ((step g).0 k) [
      | inl a ↦ elim ((before g).0 a) [ inl b ↦ inl b | inr p ↦ inr (p.0, earlier xs i d within p.0 p.1, p.2) ]
      | inr p ↦ let l = p.2 in inr (p.0, latest xs i d within p.0 p.1, (l.0, ((left g l.0).0 l.1).0, l.2))
    ],
    λ k. (step g).1 (elim k [
      | inl b ↦ inl ((before g).1 (inl b))
      | inr p ↦
          let l = p.2 in
          elim (some_decided (take i xs) (λ y. IsTrue (set.contains l.0.looked y)) (λ y _. true_decided (set.contains l.0.looked y))) [
            | inl q ↦ inl ((before g).1 (inr (q.0, q.1, (l.0, l.1, q.2))))
            | inr none ↦ elim (so_far xs i d within p.0 p.1) [
              | inl e ↦ absurd (none (p.0, e, l.2))
              | inr e ↦ inr (p.0, e, (l.0, (left g l.0).1 (l.1, λ y j held. none (y, j, held)), l.2))
            ]
          ]
    ]),
  )
