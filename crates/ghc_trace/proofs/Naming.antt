-- What is picked out of the entries of a map of goals is named by name.
use Rattle.ghc_trace.proofs.Words.{◌≡◌, List, map, refl, sym, ap, ◌∙◌, subst, inl, inr, ◌↔◌, Option, Some, Less, IsStrictlySortedBy, keys_of, GoalName, In, in_map, goal_cmp, Precedes, Picks, Record, mapped, is_before, picks_in, picks_has, picks_order, NotesByGoal, WaitsWhereBound, AreResumedBy, AreStuckOtherwise, status_by, Standing, Former, IsNewsBy, standings, Stuck}
use Rattle.std.specs.FinMap as finite
use Rattle.ghc_trace.proofs.Entries.{before_of_map, rises, entry_in, in_entry}

module _ (es picked : List Former) (sorted : IsStrictlySortedBy goal_cmp (keys_of es)) where
  -- what `told` makes of each goal picked out names the goal
  module _ {Y : Type 0} (P : Former → Type 0) (k : Picks P es picked) (told : Former → Y) (name : Y → GoalName) (same : (e : Former) → name (told e) ≡ e.0) where
    -- told is what belongs to the entries of which P holds
    each_told : (y : Y) → In y (map told picked)
        ↔ ((before : Option Stuck) × (finite.get (finite.from_entries {R = goal_cmp} es) (name y) ≡ Some before) × P (name y, before) × (y ≡ told (name y, before)))
    each_told y = (
      λ i.
          let p = mapped told picked y i in
          let q = picks_in es picked p.0 k p.1 in
          let named : name y ≡ p.0.0 = ap name p.2 ∙ same p.0 in (
            p.0.1,
            ap (finite.get (finite.from_entries {R = goal_cmp} es)) named ∙ in_entry es p.0 sorted q.0,
            subst (λ g. P (g, p.0.1)) (sym named) q.1,
            p.2 ∙ ap (λ g. told (g, p.0.1)) (sym named),
          ),
      λ h. elim (picks_has es picked (name y, h.0) k (entry_in es (name y) h.0 h.1)) [
        | inl i ↦ subst (λ z. In z (map told picked)) (sym h.3) (in_map told picked (name y, h.0) i)
        | inr n ↦ absurd (n h.2)
      ],
    )

    -- by name
    told_in_order : (y z : Y) → Precedes (map told picked) y z → goal_cmp (name y) (name z) ≡ Less
    told_in_order y z p =
        let q = before_of_map told picked y z (is_before _ y z p) in
        subst (λ g. goal_cmp g (name z) ≡ Less) (sym (ap name q.3 ∙ same q.0))
        (subst (λ g. goal_cmp q.0.0 g ≡ Less) (sym (ap name q.4 ∙ same q.1)) (rises es q.0 q.1 sorted (picks_order es picked q.0 q.1 k q.2)))

  pub resumed_named : (r : Record) → Picks (λ e. WaitsWhereBound r e.1) es picked → AreResumedBy r (finite.from_entries es) (map (λ e. e.0) picked)
  resumed_named r k = record {
    each = λ g.
        let told = each_told (λ e. WaitsWhereBound r e.1) k (λ e. e.0) (λ z. z) (λ e. refl) g in
        (λ i. let p = told.0 i in (p.0, p.1, p.2), λ h. told.1 (h.0, h.1, h.2, refl));
    ordered = told_in_order (λ e. WaitsWhereBound r e.1) k (λ e. e.0) (λ z. z) (λ e. refl);
  }

  pub news_named : (notes : NotesByGoal) → Picks (IsNewsBy notes) es picked → AreStuckOtherwise notes (finite.from_entries es) (standings notes picked)
  news_named notes k =
      let standing : Former → Standing = λ e. (e.0, status_by (finite.get notes e.0)) in
      record {
        each = λ g s.
            let told = each_told (IsNewsBy notes) k standing (λ (n : Standing). n.0) (λ e. refl) (g, s) in
            (λ i. let p = told.0 i in (p.0, p.1, p.2, ap (λ z. z.1) p.3), λ h. told.1 (h.0, h.1, h.2, ap (λ t. (g, t)) h.3));
        ordered = told_in_order (IsNewsBy notes) k standing (λ (n : Standing). n.0) (λ e. refl);
      }
