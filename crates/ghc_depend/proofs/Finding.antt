-- What a list has or has not, goals by name, and what a step makes.
use Rattle.ghc_depend.proofs.Words.{◌≡◌, ℕ, ◌+◌, ◌≤◌, ◌<◌, ◌⊎◌, cond, List, [], ◌∷◌, length, refl, sym, ap, ◌∙◌, inl, inr, arith, Some, None, Option, option_or, eq_by_cmp, GoalName, Goal, In, goal_cmp, Goals, Record, with_makes, without_goal, goal_total, same_goal, same_parts, is_before, before_in, MakesGoal, DependsOn, some_decided}
use Rattle.std.specs.FinMap as finite
use Rattle.std.proofs.lemmas.Bool.{both_ways, cases_Bool}
use Rattle.ghc_term.proofs.GoalNames.{apart}
use Rattle.ghc_records.proofs.States.{tied as goal_tied}

-- by whether there is a value
pub by_option : {A P : Type 0} (o : Option A) → (o ≡ None → P) → ((a : A) → o ≡ Some a → P) → P
by_option None f g = f refl
by_option (Some a) f g = g a refl

pub not_both : {A : Type 0} {o : Option A} {x : A} → o ≡ Some x → o ≡ None → ⊥
not_both p q = cc

pub same_value : {A : Type 0} {o : Option A} {x y : A} → o ≡ Some x → o ≡ Some y → x ≡ y
same_value p q = cc

-- both ends of a dependence are in the list
pub ends : (rs : List Record) (b a : Record) → DependsOn rs b a → In a rs × In b rs
ends rs b a d = before_in rs a b (is_before rs a b d.0)

-- an element at which f has a value, or none
pub find_value : {A B : Type 0} (f : A → Option B) (xs : List A) → ((x : A) × (b : B) × In x xs × (f x ≡ Some b)) ⊎ ((x : A) → In x xs → f x ≡ None)
find_value {B = B} f xs = elim (some_decided xs (λ x. (b : B) × (f x ≡ Some b)) (λ x _. by_option (f x) (λ n. inr (λ p. not_both p.1 n)) (λ b e. inl (b, e)))) [
  | inl p ↦ inl (p.0, p.2.0, p.1, p.2.1)
  | inr m ↦ inr (λ x i. by_option (f x) (λ n. n) (λ b e. absurd (m (x, i, (b, e)))))
]

pub goal_or_not : (h g : GoalName) → (h ≡ g) ⊎ (¬ (h ≡ g))
goal_or_not h g = grind (arith, cases_Bool, same_goal, both_ways, goal_tied)

pub named_or_not : (o : Option GoalName) (g : GoalName) → (o ≡ Some g) ⊎ (¬ (o ≡ Some g))
named_or_not None g = inr (λ e. cc)
named_or_not (Some h) g = elim (goal_or_not h g) [ inl e ↦ inl (ap Some e) | inr n ↦ inr (λ e. n (let same : h ≡ g = cc in same)) ]

-- a step that consumed the goal, or none
pub find_consumed : (rs : List Record) (g : GoalName) → ((r : Record) × In r rs × (r.goal ≡ Some g)) ⊎ ((r : Record) → In r rs → ¬ (r.goal ≡ Some g))
find_consumed rs g = elim (some_decided rs (λ r. r.goal ≡ Some g) (λ r _. named_or_not r.goal g)) [ inl p ↦ inl p | inr n ↦ inr (λ r i e. n (r, i, e)) ]

-- the goal of this name that the step made, if it made one
abbrev pub own : Record → GoalName → Option Goal
own r g = finite.get (with_makes r.number 1 r.effect.makes finite.empty) g

-- the goals made lie over those that were there
pub makes_at : (n i : ℕ) (gs : List Goal) (m : Goals) (g : GoalName) → finite.get (with_makes n i gs m) g ≡ option_or (finite.get (with_makes n i gs finite.empty) g) (finite.get m g)
makes_at n i [] m g = ap (λ o. option_or o (finite.get m g)) (sym (finite.get-empty goal_cmp g))
makes_at n i (b ∷ gs) m g =
    let name : GoalName = record { step = n; place = i } in
    let more = finite.get-insert goal_total (with_makes n (i + 1) gs m) name b g in
    grind (arith, finite.get-insert goal_total (with_makes n (i + 1) gs finite.empty) name b g, makes_at n (i + 1) gs m g)

made_place : (n i : ℕ) (gs : List Goal) (g : GoalName) (b : Goal) → finite.get (with_makes n i gs finite.empty) g ≡ Some b → (g.step ≡ n) × (i ≤ g.place) × (g.place < i + length gs)
made_place n i [] g b e = absurd (not_both e (finite.get-empty goal_cmp g))
made_place n i (c ∷ gs) g b e =
    let name : GoalName = record { step = n; place = i } in
    grind (arith, finite.get-insert goal_total (with_makes n (i + 1) gs finite.empty) name c g, same_goal g name, made_place n (i + 1) gs g b)

place_made : (n i : ℕ) (gs : List Goal) (g : GoalName) → g.step ≡ n → i ≤ g.place → g.place < i + length gs → (b : Goal) × (finite.get (with_makes n i gs finite.empty) g ≡ Some b)
place_made n i [] g s l u = absurd (omega arith)
place_made n i (c ∷ gs) g s l u =
    let rest = with_makes n (i + 1) gs finite.empty in
    let name : GoalName = record { step = n; place = i } in
    let at : finite.get (finite.insert rest name c) g ≡ cond (eq_by_cmp goal_cmp g name) (Some c) (finite.get rest g) = finite.get-insert goal_total rest name c g in
    elim (goal_or_not g name) [
      | inl e ↦ (c, at ∙ ap (λ d. cond d (Some c) (finite.get rest g)) (goal_tied g name e))
      | inr other ↦
          let behind : ¬ (g.place ≡ i) = λ e. other (same_parts g name s e) in
          let more = place_made n (i + 1) gs g s (omega (arith, behind)) (omega arith) in
          (more.0, at ∙ ap (λ d. cond d (Some c) (finite.get rest g)) (apart g name other) ∙ more.1)
    ]

-- the step made the goals that it is said to make, and no others
pub own_made : (r : Record) (g : GoalName) (b : Goal) → own r g ≡ Some b → MakesGoal r g
own_made r g b e = let p = made_place r.number 1 r.effect.makes g b e in (p.0, p.1, omega (arith, p.2))

pub made_own : (r : Record) (g : GoalName) → MakesGoal r g → (b : Goal) × (own r g ≡ Some b)
made_own r g m = place_made r.number 1 r.effect.makes g m.0 m.1 (omega (arith, m.2))

-- without a goal, the others are as they were
pub without_it : (o : Option GoalName) (m : Goals) (g : GoalName) → o ≡ Some g → finite.get (without_goal o m) g ≡ None
without_it None m g e = cc
without_it (Some h) m g e =
    let same : g ≡ h = cc in
    finite.get-remove goal_total m h g ∙ ap (λ d. cond d None (finite.get m g)) (goal_tied g h same)

pub without_other : (o : Option GoalName) (m : Goals) (g : GoalName) → ¬ (o ≡ Some g) → finite.get (without_goal o m) g ≡ finite.get m g
without_other None m g n = refl
without_other (Some h) m g n = finite.get-remove goal_total m h g ∙ ap (λ d. cond d None (finite.get m g)) (apart g h (λ e. n (ap Some (sym e))))

pub without_none : (o : Option GoalName) (m : Goals) (g : GoalName) → finite.get m g ≡ None → finite.get (without_goal o m) g ≡ None
without_none o m g e = elim (named_or_not o g) [ inl p ↦ without_it o m g p | inr n ↦ without_other o m g n ∙ e ]
