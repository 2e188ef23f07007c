-- Notes and marks are dropped, woken and marked one after another.
use Rattle.ghc_core.proofs.Words.{◌≡◌, ℕ, ◌+◌, ◌<◌, ◌≤◌, ◌⊎◌, false, List, [], ◌∷◌, ◌++◌, length, take, get_or, refl, sym, ap, subst, ◌∙◌, inl, inr, arith, Some, None, is_some, keys_of, eq_by_cmp, take_more, take_all, length-map, get_or-map, VarName, GoalName, Tree, Goal, name_cmp, StoreValue, In, name_total, is_stream, goal_cmp, Goals, Unified as unified, goal_total, same_parts, NotesByGoal, Tries, AreSpared, AreWoken, goal_itself, goal_cases, goal_put, goal_taken, gone_here, gone_elsewhere, still_noted, spared_next, woken_next, with_makes, name, last_first, by_option, makes_at, own_made, IsGiven, IsBound, IsToTry, AreDropped, AreMarked, AreCarried, any_in, in_any, is_some-find, list_any}
use Rattle.std.specs.FinMap as finite
use Rattle.std.specs.FinSet as set

-- one goal lost its note or mark
pub one_dropped : (old new : Tries) (g : GoalName) → new.notes ≡ finite.remove old.notes g → new.untried ≡ set.remove old.untried g → AreDropped (λ h. h ≡ g) old new
one_dropped old new g e u = record {
  notes = λ h n.
      let at : finite.get new.notes h ≡ finite.get (finite.remove old.notes g) h = ap (λ m. finite.get m h) e in
      grind (arith, goal_cases h g, still_noted old.notes g h n, gone_here old.notes g, gone_elsewhere old.notes g h);
  untried = λ h.
      let is : set.contains new.untried h ≡ set.contains (set.remove old.untried g) h = ap (λ s. set.contains s h) u in
      grind (arith, goal_taken old.untried g h);
}

-- the same said of the same goals
pub dropped_as : (Gone Same : GoalName → Type 0) (old new : Tries) → ((g : GoalName) → Gone g → Same g) → ((g : GoalName) → Same g → Gone g) → AreDropped Gone old new → AreDropped Same old new
dropped_as Gone Same old new to back d = record {
  notes = λ g n. grind (arith, d.notes g n, to g, back g);
  untried = λ g. grind (arith, d.untried g, to g, back g);
}

-- a goal more of those that a step made, from the last one on
pub next_dropped : (n i k : ℕ) (old now new : Tries) → 0 < i → i ≤ k → AreDropped (IsGiven n i k) old now → AreDropped (λ h. h ≡ name n i) now new → (j : ℕ) → j + 1 ≡ i → AreDropped (IsGiven n j k) old new
next_dropped n i k old now new some most before step j below = record {
  notes = λ g m. grind (arith, before.notes g m, step.notes g m, same_parts g (name n i));
  untried = λ g. grind (arith, before.untried g, step.untried g, same_parts g (name n i));
}

-- the variables that a list of bindings binds
module _ (es : List (VarName × Tree)) (binds : StoreValue) (all : finite.from_entries es ≡ binds) (y : VarName) where
  is_found : finite.contains_key binds y ≡ list_any (eq_by_cmp name_cmp y) (keys_of es)
  is_found = ap is_some (ap (λ m. finite.get m y) (sym all) ∙ finite.get-from_entries name_total es y) ∙ is_some-find name_cmp y es

  pub bound_in : IsBound binds y → In y (keys_of es)
  bound_in b = any_in y (keys_of es) (sym is_found ∙ b)

  pub in_bound : In y (keys_of es) → IsBound binds y
  in_bound i = is_found ∙ in_any y (keys_of es) i

-- the same said of the same variables
pub spared_as : (T U : VarName → Type 0) (old new : NotesByGoal) → ((x : VarName) → T x → U x) → ((x : VarName) → U x → T x) → AreSpared T old new → AreSpared U old new
spared_as T U old new to back s g n = grind (arith, s g n)

pub woken_as : (T U : VarName → Type 0) (notes : NotesByGoal) (old new : set.FinSet goal_cmp) → ((x : VarName) → T x → U x) → ((x : VarName) → U x → T x) → AreWoken T notes old new → AreWoken U notes old new
woken_as T U notes old new to back w g = grind (arith, w g)

-- the first i of the variables that a list of bindings binds
abbrev pub Firsts : List (VarName × Tree) → ℕ → VarName → Type 0
Firsts es i y = In y (take i (keys_of es))

-- once all were gone through, these are just the variables bound
module _ (es : List (VarName × Tree)) (binds : StoreValue) (all : finite.from_entries es ≡ binds) (i : ℕ) (out : length es ≤ i) where
  each : take i (keys_of es) ≡ keys_of es
  each =
      let same : length (keys_of es) ≡ length es = length-map es (λ e. e.0) in
      take_all i (keys_of es) (omega (arith, same, out))

  pub firsts_bound : (y : VarName) → Firsts es i y → IsBound binds y
  firsts_bound y f = in_bound es binds all y (subst (In y) each f)

  pub bound_firsts : (y : VarName) → IsBound binds y → Firsts es i y
  bound_firsts y b = subst (In y) (sym each) (bound_in es binds all y b)

module _ (es : List (VarName × Tree)) (i : ℕ) (d : VarName × Tree) (within : i < length es) (old now new : Tries) where
  long : i < length (keys_of es)
  long = let same : length (keys_of es) ≡ length es = length-map es (λ e. e.0) in omega (arith, same, within)

  this : get_or (keys_of es) i d.0 ≡ (get_or es i d).0
  this = get_or-map (λ e. e.0) es i d d.0 within

  pub spared_more : AreSpared (Firsts es i) old.notes now.notes → AreSpared (λ y. y ≡ (get_or es i d).0) now.notes new.notes → AreSpared (Firsts es (i + 1)) old.notes new.notes
  spared_more before step = spared_next old now new (keys_of es) i d.0 long before (subst (λ x. AreSpared (λ y. y ≡ x) now.notes new.notes) (sym this) step)

  pub woken_more : AreSpared (Firsts es i) old.notes now.notes → AreWoken (Firsts es i) old.notes old.untried now.untried → AreWoken (λ y. y ≡ (get_or es i d).0) now.notes now.untried new.untried
      → AreWoken (Firsts es (i + 1)) old.notes old.untried new.untried
  woken_more left before step = woken_next old now new (keys_of es) i d.0 long left before (subst (λ x. AreWoken (λ y. y ≡ x) now.notes now.untried new.untried) (sym this) step)

-- a goal was marked, or as a stream goal was not
pub one_marked : (old new : Tries) (g : GoalName) (b : Goal) → is_stream b ≡ false → new.notes ≡ old.notes → new.untried ≡ set.insert old.untried g → AreMarked (λ h. (h ≡ g) × (is_stream b ≡ false)) old new
one_marked old new g b plain e u = record {
  notes = e;
  untried = λ h.
      let is : set.contains new.untried h ≡ set.contains (set.insert old.untried g) h = ap (λ s. set.contains s h) u in
      grind (arith, goal_put old.untried g h);
}

pub none_marked : (Come : GoalName → Type 0) (t : Tries) → ((g : GoalName) → ¬ Come g) → AreMarked Come t t
none_marked Come t none = record { notes = refl; untried = λ g. (λ k. inl k, λ k. elim k [ inl a ↦ a | inr c ↦ absurd (none g c) ]) }

-- a goal made under the name stands at its place
made_within : (n : ℕ) (gs : List Goal) (g : GoalName) (b : Goal) → finite.get (with_makes n 1 gs finite.empty) g ≡ Some b → (g.step ≡ n) × (1 ≤ g.place) × (g.place ≤ length gs)
made_within n gs g b e =
    own_made (record { number = n; goal = None; consumed = None; act = unified; effect = record { reads = set.empty; binds = finite.empty; makes = gs; fresh = 0 } }) g b e

-- a goal more of those that a step made
module _ (n : ℕ) (front : List Goal) (b : Goal) where
  at : (g : GoalName) → finite.get (with_makes n 1 (front ++ b ∷ []) finite.empty) g ≡ finite.get (with_makes n 1 front (finite.insert finite.empty (name n (1 + length front)) b)) g
  at g = ap (λ m. finite.get m g) (last_first n 1 front b finite.empty)

  pub to_try_more : (g : GoalName) → IsToTry n (front ++ b ∷ []) g → IsToTry n front g ⊎ ((g ≡ name n (1 + length front)) × (is_stream b ≡ false))
  to_try_more g t =
      let last : Goals = finite.insert finite.empty (name n (1 + length front)) b in
      grind (
        arith,
        at g,
        makes_at n 1 front last g,
        goal_cases g (name n (1 + length front)),
        finite.get-insert goal_total finite.empty (name n (1 + length front)) b g,
        finite.get-empty {X = Goal} goal_cmp g,
        goal_itself g,
      )

  pub more_to_try : (g : GoalName) → IsToTry n front g ⊎ ((g ≡ name n (1 + length front)) × (is_stream b ≡ false)) → IsToTry n (front ++ b ∷ []) g
  more_to_try g t =
      let last : Goals = finite.insert finite.empty (name n (1 + length front)) b in
      grind (
        arith,
        at g,
        makes_at n 1 front last g,
        finite.get-insert goal_total finite.empty (name n (1 + length front)) b g,
        goal_itself g,
        λ (c : Goal). made_within n front g c,
      )

-- nothing made is nothing to try
pub none_to_try : (n : ℕ) (g : GoalName) → ¬ IsToTry n [] g
none_to_try n g t = let clash : None ≡ Some t.0 = sym (finite.get-empty goal_cmp g) ∙ t.1 in cc

-- the next goal of a list was marked
pub next_marked : (n i : ℕ) (gs : List Goal) (d : Goal) (old now new : Tries) → i < length gs → length (take i gs) ≡ i → AreMarked (IsToTry n (take i gs)) old now → AreMarked (λ g. (g ≡ name n (i + 1)) × (is_stream (get_or gs i d) ≡ false)) now new
    → AreMarked (IsToTry n (take (i + 1) gs)) old new
next_marked n i gs d old now new within long before step =
    let front = take i gs in
    let b = get_or gs i d in
    let place : i + 1 ≡ 1 + length front = omega (arith, long) in
    let last = subst (λ j. AreMarked (λ g. (g ≡ name n j) × (is_stream b ≡ false)) now new) place step in
    subst (λ l. AreMarked (IsToTry n l) old new) (sym (take_more gs i d within)) (record {
      notes = step.notes ∙ before.notes;
      untried = λ g. grind (arith, before.untried g, last.untried g, to_try_more n front b g, more_to_try n front b g);
    })

-- first goals were dropped, then some woken, then others marked
pub carried : (Gone : GoalName → Type 0) (T : VarName → Type 0) (Come : GoalName → Type 0) (old one two new : Tries) → AreDropped Gone old one → AreSpared T one.notes two.notes → AreWoken T one.notes one.untried two.untried
    → AreMarked Come two new → AreCarried Gone T Come old new
carried Gone T Come old one two new dropped spared woken marked =
    let at : (g : GoalName) → finite.get new.notes g ≡ finite.get two.notes g = λ g. ap (λ m. finite.get m g) marked.notes in
    record {
      notes = λ g n. grind (arith, at g, spared g n, dropped.notes g n);
      untried = λ g. (
        λ k. elim ((marked.untried g).0 k) [
          | inl a ↦ elim ((woken g).0 a) [
            | inl b ↦ let d = (dropped.untried g).0 b in inl (d.1, inl d.0)
            | inr (x, t, (n, e, l)) ↦ let d = (dropped.notes g n).0 e in inl (d.1, inr (x, t, (n, d.0, l)))
          ]
          | inr c ↦ inr c
        ],
        λ k. (marked.untried g).1 (elim k [
          | inl (stays, inl a) ↦ inl ((woken g).1 (inl ((dropped.untried g).1 (a, stays))))
          | inl (stays, inr (x, t, (n, e, l))) ↦ inl ((woken g).1 (inr (x, t, (n, (dropped.notes g n).1 (e, stays), l))))
          | inr c ↦ inr c
        ]),
      );
    }

-- a goal without a note gets none where notes go
pub none_stays : (Gone : GoalName → Type 0) (T : VarName → Type 0) (old one two : Tries) → AreDropped Gone old one → AreSpared T one.notes two.notes → (g : GoalName) → finite.get old.notes g ≡ None → finite.get two.notes g ≡ None
none_stays Gone T old one two dropped spared g none =
    by_option (finite.get two.notes g) (λ e. e) (λ n e. let was = (dropped.notes g n).0 ((spared g n).0 e).0 in let clash : None ≡ Some n = sym none ∙ was.0 in absurd (cc))
