-- Who holds the variables for which a goal waits.
use Rattle.ghc_trace.proofs.Words.{◌≡◌, ◌≢◌, List, [], ◌∷◌, sym, ap, ◌∙◌, subst, inl, inr, ◌↔◌, Some, None, IsTrue, Ordering, Less, AllByRecursion, GoalName, VarName, Variables, Picks, nothing, leave, picks_in, picks_has, Note, NotesByGoal, World, waiting, IsHookedOn, StandsAs, IsSettled}
use Rattle.std.specs.FinMap as finite
use Rattle.std.specs.FinSet as set
use Rattle.std.specs.List.Sorted.{IsStrictlySortedBy}
use Rattle.ghc_records.specs.Orders.{take as taken}
use Rattle.ghc_trace.specs.declared.holding.Holder.{Holder}
use Rattle.ghc_trace.specs.Holding.{AreHoldersAmong, AreHoldersFor, holder_cmp}
use Rattle.ghc_trace.proofs.Telling.{note_stands, settled_in, stuck_noted}

-- what is picked of a rising list rises
module _ {X : Type 0} {P : X → Type 0} (cmp : X → X → Ordering) where
  still_below : (x : X) (xs ys : List X) → AllByRecursion (λ y. cmp x y ≡ Less) xs → Picks P xs ys → AllByRecursion (λ y. cmp x y ≡ Less) ys
  still_below x [] ys a nothing = a
  still_below x (z ∷ xs) ys a (taken p rest) = (a.0, still_below x xs _ a.1 rest)
  still_below x (z ∷ xs) ys a (leave n rest) = still_below x xs ys a.1 rest

  still_rising : (xs ys : List X) → IsStrictlySortedBy cmp xs → Picks P xs ys → IsStrictlySortedBy cmp ys
  unfolding IsStrictlySortedBy
  still_rising [] ys s nothing = s
  still_rising (x ∷ xs) ys s (taken p rest) = (still_below x xs _ s.0 rest, still_rising xs _ s.1 rest)
  still_rising (x ∷ xs) ys s (leave n rest) = still_rising xs ys s.1 rest

module _ (w : World) (notes : NotesByGoal) (settled : IsSettled w notes) (g : GoalName) where
  abbrev pub IsAwaited : VarName → Type 0
  IsAwaited y = IsHookedOn w.opening.program w.state.goals w.state.store y g

  -- a goal that waits has a note that says so
  pub noted : (y : VarName) → IsAwaited y → (note : Note) × (xs : Variables) × (finite.get notes g ≡ Some note) × (note.status ≡ waiting xs) × IsTrue (set.contains xs y)
  noted y h =
      let n = stuck_noted w.opening.program w.state.goals w.state.store notes (settled_in settled) g (waiting h.0) h.1 tt in
      (n.0, h.0, n.1, n.2, h.2)

  -- where it does not wait, nobody holds what it waits for
  nobody_for : ((note : Note) (xs : Variables) → finite.get notes g ≡ Some note → note.status ≢ waiting xs) → AreHoldersFor w g []
  unfolding IsStrictlySortedBy
  nobody_for none = (tt, λ h. (λ i. absurd i, λ q. let n = noted h.variable q.0 in absurd (none n.0 n.1 n.2 n.3)))

  pub nobody_unnoted : finite.get notes g ≡ None → AreHoldersFor w g []
  nobody_unnoted none = nobody_for (λ note xs is waits. let clash : Some note ≡ None = sym is ∙ none in cc)

  pub nobody_noted : (note : Note) → finite.get notes g ≡ Some note → ((xs : Variables) → note.status ≢ waiting xs) → AreHoldersFor w g []
  nobody_noted note is calm = nobody_for (λ n xs e waits.
      let one : Some n ≡ Some note = sym e ∙ is in
      let same : n ≡ note = cc in
      calm xs (subst (λ (z : Note). z.status ≡ waiting xs) same waits))

  module _ (note : Note) (xs : Variables) (is : finite.get notes g ≡ Some note) (waits : note.status ≡ waiting xs) where
    pub awaited : (y : VarName) → IsAwaited y ↔ IsTrue (set.contains xs y)
    awaited y = (
      λ h.
          let n = noted y h in
          let one : Some note ≡ Some n.0 = sym is ∙ n.2 in
          let same : note ≡ n.0 = cc in
          let sets : waiting xs ≡ waiting n.1 = sym waits ∙ ap (λ (z : Note). z.status) same ∙ n.3 in
          let set_is : xs ≡ n.1 = cc in
          subst (λ s. IsTrue (set.contains s y)) (sym set_is) n.4,
      λ i. (xs, subst (StandsAs w.opening.program w.state.goals w.state.store g) waits (note_stands w.opening.program w.state.goals w.state.store notes (settled_in settled) g note is), i),
    )

    pub others_hold : (all hs : List Holder) → AreHoldersAmong w.state xs all → Picks (λ h. h.goal ≢ g) all hs → AreHoldersFor w g hs
    others_hold all hs among picked = (
      still_rising holder_cmp all hs among.0 picked,
      λ h. (
        λ i.
            let p = picks_in all hs h picked i in
            let q = (among.1 h).0 p.0 in
            ((awaited h.variable).1 q.0, p.1, q.1),
        λ q. elim (picks_has all hs h picked ((among.1 h).1 ((awaited h.variable).0 q.0, q.2))) [ inl j ↦ j | inr n ↦ absurd (n q.1) ],
      ),
    )
