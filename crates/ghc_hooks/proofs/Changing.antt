-- Tries whose parts fit each other still do after a goal was added, noted, dropped or woken.
use Rattle.ghc_hooks.proofs.Words.{◌≡◌, ◌<◌, ◌≤◌, ◌+◌, List, sym, ap, subst, ◌∙◌, inl, inr, arith, ◌↔◌, Some, None, IsTrue, VarName, GoalName, name_cmp, Table, GoalNames, Note, NotesByGoal, GoalsByVariable, looks, FitEachOther}
use Rattle.std.specs.FinMap as finite
use Rattle.std.specs.FinSet as set
use Rattle.ghc_hooks.proofs.Looking.{goal_put, goal_taken, goal_cases}
use Rattle.ghc_hooks.proofs.LookingAll.{HasBesides, HasWithout}
use Rattle.ghc_hooks.proofs.NotedFaces.{through}
use Rattle.ghc_hooks.proofs.Fitting.{put_elsewhere, gone_here, gone_elsewhere, one_more_note, one_note_less, follows_put, follows_gone}

-- a note of what is left is one of what there was
pub still_noted : (m : NotesByGoal) (g h : GoalName) (n : Note) → finite.get (finite.remove m g) h ≡ Some n → finite.get m h ≡ Some n
still_noted m g h n there = grind (arith, goal_cases h g, gone_here m g, gone_elsewhere m g h)

pub still_none : (m : NotesByGoal) (g h : GoalName) → finite.get m h ≡ None → finite.get (finite.remove m g) h ≡ None
still_none m g h none = grind (arith, goal_cases h g, gone_here m g, gone_elsewhere m g h)

module _ (m : NotesByGoal) (u u' : Table GoalNames) (b : GoalsByVariable) (fit : FitEachOther m u b) where
  pub fit_same : (b' : GoalsByVariable) → u'.held ≡ u.held → u.room ≤ u'.room → ((y : VarName) (h : GoalName) → IsTrue (looks b' y h) ↔ IsTrue (looks b y h))
      → FitEachOther m u' b'
  fit_same b' held room same = record {
    apart = λ h there. fit.apart h (ap (λ s. set.contains s h) (sym held) ∙ there);
    follows = λ y h. through (same y h) (fit.follows y h);
    room = let before = fit.room in omega (arith, before, room);
  }

  pub fit_added : (g : GoalName) → finite.get m g ≡ None → u'.held ≡ set.insert u.held g → u.room ≤ u'.room + 1 → finite.len m < u.room → FitEachOther m u' b
  fit_added g none held room more = grind (arith, goal_put)

  pub fit_unmarked : (g : GoalName) → u'.held ≡ set.remove u.held g → u.room ≤ u'.room → FitEachOther m u' b
  fit_unmarked g held room = grind (arith, goal_taken)

  module _ (m' : NotesByGoal) (b' : GoalsByVariable) (g : GoalName) (n : Note) (xs : List VarName) (all : set.from_list {R = name_cmp} xs ≡ n.looked) where
    pub fit_noted : IsTrue (set.contains u.held g) → m' ≡ finite.insert m g n → u'.held ≡ set.remove u.held g → finite.len m + 1 ≤ u'.room → HasBesides b xs g b' → FitEachOther m' u' b'
    fit_noted marked e held room besides =
        let none : finite.get m g ≡ None = fit.apart g marked in
        subst (λ z. FitEachOther z u' b') (sym e) (record {
          apart = λ h there.
              let k = (goal_taken u.held g h).0 (ap (λ s. set.contains s h) (sym held) ∙ there) in
              elim (goal_cases h g) as (λ _. finite.get (finite.insert m g n) h ≡ None) [ inl p ↦ absurd (k.1 p) | inr d ↦ put_elsewhere m g n h d ∙ fit.apart h k.0 ];
          follows = follows_put m b b' g n xs all fit.follows none besides;
          room = let count = one_more_note m g n none in omega (arith, count, room);
        })

    module _ (there : finite.get m g ≡ Some n) (e : m' ≡ finite.remove m g) (without : HasWithout b xs g b') where
      pub fit_dropped : u'.held ≡ set.remove u.held g → u.room ≤ u'.room → FitEachOther m' u' b'
      fit_dropped held room = subst (λ z. FitEachOther z u' b') (sym e) (record {
        apart = λ h k. still_none m g h (fit.apart h ((goal_taken u.held g h).0 (ap (λ s. set.contains s h) (sym held) ∙ k)).0);
        follows = follows_gone m b b' g n xs all fit.follows there without;
        room = let before = fit.room in let count = one_note_less m g n there in omega (arith, before, count, room);
      })

      pub fit_woken : u'.held ≡ set.insert u.held g → u.room ≤ u'.room + 1 → FitEachOther m' u' b'
      fit_woken held room = subst (λ z. FitEachOther z u' b') (sym e) (record {
        apart = λ h k. elim ((goal_put u.held g h).0 (ap (λ s. set.contains s h) (sym held) ∙ k)) [
          | inl l ↦ still_none m g h (fit.apart h l)
          | inr p ↦ ap (finite.get (finite.remove m g)) p ∙ gone_here m g
        ];
        follows = follows_gone m b b' g n xs all fit.follows there without;
        room = let before = fit.room in let count = one_note_less m g n there in omega (arith, before, count, room);
      })
