-- The variables asked about are found from the first ones, by the goals that wait.
use Rattle.ghc_trace.proofs.Words.{◌≡◌, ◌≢◌, ◌⊎◌, ◌↔◌, List, [], ◌∷◌, ◌++◌, refl, sym, ap, ◌∙◌, subst, inl, inr, Option, Some, None, IsTrue, GoalName, Goal, VarName, Variables, Tree, In, in_left, in_last, in_more, has_member, is_member, Program, call, unify, assign, stream, value_at, Status, ready, waiting, failed, streaming, HasStatus, is_ready, is_waiting, is_failed, is_stream_goal, IsHookedOn, Note, NotesByGoal, World, IsSettled, Named, name_cmp}
use Rattle.std.specs.BTreeMap.{is_at}
use Rattle.std.specs.FinMap as finite
use Rattle.std.specs.FinSet as set
use Rattle.std.specs.Map.{lookup}
use Rattle.ghc_term.specs.Bindings.{Leads, at_free, at_integer, at_node, along}
use Rattle.ghc_term.specs.Sets.{IsSetOf}
use Rattle.ghc_term.specs.Tree.{variable, integer, node}
use Rattle.ghc_hooks.specs.Status.{Awaits}
use Rattle.ghc_trace.specs.Holding.{GoalReaches, IsReaching}
use Rattle.ghc_trace.specs.WhyNot.{IsAskedAbout, asked_first, awaited_there}
use Rattle.ghc_trace.specs.inner.Backward.{GainsParent, IsAncestor, Parents, StandsUnder, above, start}
use Rattle.ghc_trace.specs.inner.WhyNotCode.{AreWaits, GainsEach, GainsUnder, GainsWaits, WaitsThere}
use Rattle.ghc_trace.proofs.HeldFor.{awaited, noted}
use Rattle.ghc_trace.proofs.Lines.{there}

-- what a goal waits for is unbound
ends_free : (S : VarName → Option Tree) {t e : Tree} {xs : List VarName} → Leads S t xs e → (x : VarName) → e ≡ variable x → S x ≡ None
ends_free S (at_integer {k = k}) x is = let clash : integer k ≡ variable x = is in absurd (cc)
ends_free S (at_node {f = f} {ts = ts}) x is = let clash : node f ts ≡ variable x = is in absurd (cc)
ends_free S (at_free {x = y} none) x is = let same : y ≡ x = cc in subst (λ z. S z ≡ None) same none
ends_free S (along e l) x is = ends_free S l x is

module _ (P : Program) (S : VarName → Option Tree) where
  awaits_free : (b : Goal) (x : VarName) → Awaits P S b x → S x ≡ None
  awaits_free (call f ts) x a = elim a.4 [ inl h ↦ ends_free S h.1.6 x refl | inr g ↦ ends_free S g.2.2.2.3 x refl ]
  awaits_free (unify l r) x a = absurd a
  awaits_free (assign t e) x a = ends_free S a.2.1 x refl
  awaits_free (stream k s) x a = absurd a

  set_awaited : {b : Goal} {s : Status} → HasStatus P S b s → (xs : Variables) → s ≡ waiting xs → IsSetOf xs (Awaits P S b)
  set_awaited (is_ready act e a) xs is = let clash : ready ≡ waiting xs = is in absurd (cc)
  set_awaited {b} (is_waiting {xs = ys} a members) xs is = let same : ys ≡ xs = cc in subst (λ zs. IsSetOf zs (Awaits P S b)) same members
  set_awaited (is_failed {f = f} n a o) xs is = let clash : failed f ≡ waiting xs = is in absurd (cc)
  set_awaited (is_stream_goal n) xs is = let clash : streaming ≡ waiting xs = is in absurd (cc)

pub hooked_free : (w : World) (x : VarName) (g : GoalName) → IsHookedOn w.opening.program w.state.goals w.state.store x g → value_at w.state.store x ≡ None
hooked_free w x g h =
    let S = value_at w.state.store in
    awaits_free w.opening.program S h.1.0 x ((set_awaited w.opening.program S h.1.2 h.0 refl x).0 h.2)

-- under one variable, those of a list more
abbrev pub GainsList : Parents → Parents → VarName → List VarName → Type 0
GainsList old new x ys = (w v : VarName) → StandsUnder new w v ↔ (StandsUnder old w v ⊎ ((w ≡ x) × In v ys))

pub list_none : (m : Parents) (x : VarName) → GainsList m m x []
list_none m x w v = (λ s. inl s, λ c. elim c [ inl s ↦ s | inr p ↦ absurd p.1 ])

pub list_more : (old now new : Parents) (x : VarName) (ys : List VarName) (y : VarName) → GainsList old now x ys → GainsParent now new x y → GainsList old new x (ys ++ y ∷ [])
list_more old now new x ys y all one w v = (
  λ s. elim ((one w v).0 s) [
    | inl n ↦ elim ((all w v).0 n) [ inl o ↦ inl o | inr p ↦ inr (p.0, in_left ys (y ∷ []) v p.1) ]
    | inr p ↦ inr (p.0, subst (λ z. In z (ys ++ y ∷ [])) (sym p.1) (in_last ys y))
  ],
  λ c. (one w v).1 (elim c [
    | inl o ↦ inl ((all w v).1 (inl o))
    | inr p ↦ elim (in_more ys y v p.1) [ inl j ↦ inl ((all w v).1 (inr (p.0, j))) | inr e ↦ inr (p.0, e) ]
  ]),
)

pub list_all : (old new : Parents) (x : VarName) (ys : List VarName) (set_of : Variables) → set.from_list ys ≡ set_of → GainsList old new x ys → GainsEach old new x set_of
list_all old new x ys set_of all gains w v = (
  λ s. elim ((gains w v).0 s) [ inl o ↦ inl o | inr p ↦ inr (p.0, has_member set_of ys all v p.1) ],
  λ c. (gains w v).1 (elim c [ inl o ↦ inl o | inr p ↦ inr (p.0, is_member set_of ys all v p.1) ]),
)

-- under each unbound variable of a list, those of a set more
abbrev pub GainsUnderList : (VarName → Option Tree) → Parents → Parents → List VarName → Variables → Type 0
GainsUnderList S old new xs ys = (w v : VarName) → StandsUnder new w v ↔ (StandsUnder old w v ⊎ (In w xs × (S w ≡ None) × IsTrue (set.contains ys v)))

module _ (S : VarName → Option Tree) (ys : Variables) where
  pub under_none : (m : Parents) → GainsUnderList S m m [] ys
  under_none m w v = (λ s. inl s, λ c. elim c [ inl s ↦ s | inr p ↦ absurd p.0 ])

  pub under_bound : (old now : Parents) (xs : List VarName) (x : VarName) → S x ≢ None → GainsUnderList S old now xs ys → GainsUnderList S old now (xs ++ x ∷ []) ys
  under_bound old now xs x bound gains w v = (
    λ s. elim ((gains w v).0 s) [ inl o ↦ inl o | inr p ↦ inr (in_left xs (x ∷ []) w p.0, p.1, p.2) ],
    λ c. (gains w v).1 (elim c [
      | inl o ↦ inl o
      | inr p ↦ elim (in_more xs x w p.0) [ inl j ↦ inr (j, p.1, p.2) | inr e ↦ absurd (bound (subst (λ z. S z ≡ None) e p.1)) ]
    ]),
  )

  pub under_more : (old now new : Parents) (xs : List VarName) (x : VarName) → S x ≡ None → GainsUnderList S old now xs ys → GainsEach now new x ys → GainsUnderList S old new (xs ++ x ∷ []) ys
  under_more old now new xs x free gains each w v = (
    λ s. elim ((each w v).0 s) [
      | inl n ↦ elim ((gains w v).0 n) [ inl o ↦ inl o | inr p ↦ inr (in_left xs (x ∷ []) w p.0, p.1, p.2) ]
      | inr p ↦ inr (subst (λ z. In z (xs ++ x ∷ [])) (sym p.0) (in_last xs x), subst (λ z. S z ≡ None) (sym p.0) free, p.1)
    ],
    λ c. (each w v).1 (elim c [
      | inl o ↦ inl ((gains w v).1 (inl o))
      | inr p ↦ elim (in_more xs x w p.0) [ inl j ↦ inl ((gains w v).1 (inr (j, p.1, p.2))) | inr e ↦ inr (e, p.2) ]
    ]),
  )

  pub under_all : (old new : Parents) (xs : List VarName) (reached : Variables) → set.from_list xs ≡ reached → GainsUnderList S old new xs ys → GainsUnder S old new reached ys
  under_all old new xs reached all gains w v = (
    λ s. elim ((gains w v).0 s) [ inl o ↦ inl o | inr p ↦ inr (has_member reached xs all w p.0, p.1, p.2) ],
    λ c. (gains w v).1 (elim c [ inl o ↦ inl o | inr p ↦ inr (is_member reached xs all w p.0, p.1, p.2) ]),
  )

-- what one goal adds
module _ (w : World) (notes : NotesByGoal) (settled : IsSettled w notes) (g : GoalName) where
  calm : (m : Parents) → ((y : VarName) → ¬ IsHookedOn w.opening.program w.state.goals w.state.store y g) → GainsWaits w g m m
  calm m none z y = (λ s. inl s, λ c. elim c [ inl s ↦ s | inr p ↦ absurd (none y p.2) ])

  pub calm_unnoted : (m : Parents) → finite.get notes g ≡ None → GainsWaits w g m m
  calm_unnoted m none = calm m (λ y h. let n = noted w notes settled g y h in let clash : Some n.0 ≡ None = sym n.2 ∙ none in absurd (cc))

  pub calm_noted : (m : Parents) (note : Note) → finite.get notes g ≡ Some note → ((xs : Variables) → note.status ≢ waiting xs) → GainsWaits w g m m
  calm_noted m note is rests = calm m (λ y h.
      let n = noted w notes settled g y h in
      let one : Some n.0 ≡ Some note = sym n.2 ∙ is in
      let same : n.0 ≡ note = cc in
      rests n.1 (subst (λ (z : Note). z.status ≡ waiting n.1) same n.3))

  pub waits_noted : (old new : Parents) (note : Note) (xs reached : Variables) (b : Goal) → finite.get notes g ≡ Some note → note.status ≡ waiting xs → finite.get w.state.goals g ≡ Some b
      → IsSetOf reached (GoalReaches (value_at w.state.store) b) → GainsUnder (value_at w.state.store) old new reached xs → GainsWaits w g old new
  waits_noted old new note xs reached b is waits there members gains z y =
      let hooked = awaited w notes settled g note xs is waits y in (
        λ s. elim ((gains z y).0 s) [ inl o ↦ inl o | inr p ↦ inr (p.1, (b, there, (members z).0 p.0), hooked.1 p.2) ],
        λ c. (gains z y).1 (elim c [
          | inl o ↦ inl o
          | inr p ↦
              let one : Some p.1.0 ≡ Some b = sym p.1.1 ∙ there in
              let same : p.1.0 ≡ b = cc in
              inr ((members z).1 (subst (λ (q : Goal). GoalReaches (value_at w.state.store) q z) same p.1.2), p.0, hooked.0 p.2)
        ]),
      )

-- what the goals so far add
abbrev pub AreWaitsOf : World → List Named → Parents → Type 0
AreWaitsOf w done m = (z y : VarName) → StandsUnder m z y ↔ ((goal : Named) × In goal done × WaitsThere w goal.0 z y)

module _ (w : World) where
  pub waits_of_none : (m : Parents) → m.entries ≡ [] → AreWaitsOf w [] m
  waits_of_none m empty z y = (λ s. let clash : None ≡ Some s.0 = sym (ap (λ es. lookup (is_at (name_cmp z)) es) empty) ∙ s.1 in absurd (cc), λ p. absurd p.1)

  pub waits_of_more : (done : List Named) (goal : Named) (old new : Parents) → AreWaitsOf w done old → GainsWaits w goal.0 old new → AreWaitsOf w (done ++ goal ∷ []) new
  waits_of_more done goal old new are gains z y = (
    λ s. elim ((gains z y).0 s) [
      | inl o ↦ let p = (are z y).0 o in (p.0, in_left done (goal ∷ []) p.0 p.1, p.2)
      | inr p ↦ (goal, in_last done goal, p)
    ],
    λ c. (gains z y).1 (elim (in_more done goal c.0 c.1) [
      | inl j ↦ inl ((are z y).1 (c.0, j, c.2))
      | inr e ↦ inr (subst (λ (n : Named). WaitsThere w n.0 z y) e c.2)
    ]),
  )

  pub all_wait : (m : Parents) → AreWaitsOf w (finite.entries w.state.goals) m → AreWaits w m
  all_wait m are z y = (
    λ s. let p = (are z y).0 s in (p.0.0, p.2),
    λ c. (are z y).1 ((c.0, c.1.1.0), there w.state.goals c.0 c.1.1.0 c.1.1.1, c.1),
  )

  -- what is asked about is unbound where what is asked about first is
  asked_free : (First : VarName → Type 0) → ((y : VarName) → First y → value_at w.state.store y ≡ None) → {y : VarName} → IsAskedAbout w First y → value_at w.state.store y ≡ None
  asked_free First free (asked_first {y = y} f) = free y f
  asked_free First free (awaited_there {y = y} g a r h) = hooked_free w y g h

  module _ (m : Parents) (are : AreWaits w m) (first : Variables) (from : List VarName) (all : set.from_list from ≡ first) (free : (y : VarName) → IsTrue (set.contains first y) → value_at w.state.store y ≡ None) where
    abbrev IsFirst : VarName → Type 0
    IsFirst y = IsTrue (set.contains first y)

    found_asked : {v : VarName} → IsAncestor m (λ y. In y from) v → IsAskedAbout w IsFirst v
    found_asked (start {v = v} i) = asked_first (has_member first from all v i)
    found_asked (above {w = z} {v = v} a u) = let p = (are z v).0 u in awaited_there p.0 (found_asked a) p.1.1 p.1.2

    asked_found : {v : VarName} → IsAskedAbout w IsFirst v → IsAncestor m (λ y. In y from) v
    asked_found (asked_first {y = y} f) = start (is_member first from all y f)
    asked_found (awaited_there {y = y} {z = z} g a r h) = above (asked_found a) ((are z y).1 (g, (asked_free IsFirst free a, r, h)))

    pub asked_are : (xs : Variables) → IsSetOf xs (IsAncestor m (λ y. In y from)) → IsSetOf xs (IsAskedAbout w IsFirst)
    asked_are xs is v = (λ i. found_asked ((is v).0 i), λ a. (is v).1 (asked_found a))
