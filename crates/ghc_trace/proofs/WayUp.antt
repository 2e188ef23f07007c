-- The way up from a goal by the steps that made goals, and why it ends.
use Rattle.ghc_trace.proofs.Words.{◌≡◌, ℕ, zero, suc, ◌<◌, ◌≤◌, Bool, true, false, not, cond, nat_eq, List, [], ◌∷◌, ◌++◌, length, refl, sym, ap, ◌∙◌, subst, inl, inr, arith, Some, ◌↔◌, eq-eqb, ne_eqb, GoalName, In, same, same_is, same_goal, Program, Query, AreDistinct, State, Record, numbers, Replays, number_in, record_once, Descends, itself, made_by, same_value, goal_itself, taken, is_old, place_of, apart_at}
use Rattle.ghc_depend.specs.Depend.{MakesGoal}

-- where it stands, one more than that
abbrev later : ℕ → ℕ
later zero = zero
later (suc k) = suc (suc k)

-- how far from the front the step of this number stands, the first at 1; 0, where there is none
abbrev pub far : List Record → ℕ → ℕ
far [] n = 0
far (r ∷ rs) n = cond (nat_eq r.number n) 1 (later (far rs n))

later_most : (k m : ℕ) → k ≤ m → later k ≤ suc m
later_most zero m h = omega arith
later_most (suc k) m h = omega (arith, h)

far_none : (rs : List Record) (n : ℕ) → ((r : Record) → In r rs → ¬ (r.number ≡ n)) → far rs n ≡ 0
far_none [] n none = refl
far_none (r ∷ rs) n none = ap (λ b. cond b 1 (later (far rs n))) (ne_eqb r.number n (none r (inl refl))) ∙ ap later (far_none rs n (λ s i. none s (inr i)))

far_front : (front rest : List Record) (n : ℕ) → In n (numbers front) → far (front ++ rest) n ≤ length front
far_front [] rest n i = absurd i
far_front (r ∷ front) rest n (inl e) =
    let here : far (r ∷ front ++ rest) n ≡ 1 = ap (λ b. cond b 1 (later (far (front ++ rest) n))) (eq-eqb r.number n (sym e)) in
    omega (arith, here)
far_front (r ∷ front) rest n (inr i) =
    elim (nat_eq r.number n) as (λ b. cond b 1 (later (far (front ++ rest) n)) ≤ suc (length front)) [
      | true ↦ omega arith
      | false ↦ later_most (far (front ++ rest) n) (length front) (far_front front rest n i)
    ]

far_at : (front rest : List Record) (r : Record) → ((s : Record) → In s front → ¬ (r.number ≡ s.number)) → far (front ++ r ∷ rest) r.number ≡ suc (length front)
far_at [] rest r apart = ap (λ b. cond b 1 (later (far rest r.number))) (eq-eqb r.number r.number refl)
far_at (s ∷ front) rest r apart =
    ap (λ b. cond b 1 (later (far (front ++ r ∷ rest) r.number))) (ne_eqb s.number r.number (λ e. apart s (inl refl) (sym e)))
    ∙ ap later (far_at front rest r (λ q i. apart q (inr i)))

-- one step up: the goal descends from the root exactly where it is the root, or its maker's goal descends from it
up : {rs : List Record} {root g : GoalName} → ¬ (g ≡ root) → Descends rs root g
    → (r : Record) × (h : GoalName) × In r rs × MakesGoal r g × (r.goal ≡ Some h) × Descends rs root h
up other itself = absurd (other refl)
up other (made_by {h = h} r i m e d) = (r, h, i, m, e, d)

module _ (rs : List Record) (root g : GoalName) (other : ¬ (g ≡ root)) where
  -- a goal that no kept step made descends from itself alone
  pub unmade : ((r : Record) → In r rs → ¬ MakesGoal r g) → ¬ Descends rs root g
  unmade none d = let u = up other d in none u.0 u.2 u.3

  module _ (distinct : AreDistinct (numbers rs)) (maker : Record) (i : In maker rs) (makes : MakesGoal maker g) where
    only : (r : Record) → In r rs → MakesGoal r g → r ≡ maker
    only r j m = record_once rs r maker distinct j i (sym m.0 ∙ makes.0)

    -- and so does one that was made by a step without goal
    pub of_none : ((h : GoalName) → ¬ (maker.goal ≡ Some h)) → ¬ Descends rs root g
    of_none none d = let u = up other d in none u.1 (ap (λ (z : Record). z.goal) (sym (only u.0 u.2 u.3)) ∙ u.4)

    -- else it descends from what the goal of its maker descends from
    pub of_maker : (h : GoalName) → maker.goal ≡ Some h → Descends rs root h ↔ Descends rs root g
    of_maker h e = (
      λ d. made_by maker i makes e d,
      λ d.
          let u = up other d in
          let same : u.1 ≡ h = same_value u.4 (ap (λ (z : Record). z.goal) (only u.0 u.2 u.3) ∙ e) in
          subst (Descends rs root) same u.5,
    )

-- in a replay, the step that made a goal stands after the one that made the goal that it consumed
pub nearer : (P : Program) (query : Query) (rs : List Record) (t : State) → Replays P query rs t → (maker : Record) (g h : GoalName) → In maker rs → MakesGoal maker g → maker.goal ≡ Some h → far rs h.step < far rs g.step
nearer P query rs t replay maker g h i makes e =
    let p = place_of P query rs t replay maker i in
    let there = taken P p.state maker p.fires h e in
    let name : there.name ≡ h = same_value there.named e in
    let old = is_old query p.before p.state p.results there.name there.goal there.there in
    let own : far rs g.step ≡ suc (length p.before) =
    ap (far rs) makes.0 ∙ ap (λ l. far l maker.number) p.split ∙ far_at p.before p.behind maker (apart_at p.before p.behind maker (subst (λ l. AreDistinct (numbers l)) p.split replay.0.1)) in
    elim old [
      | inl none ↦
          let zero_step : h.step ≡ 0 = ap (λ (z : GoalName). z.step) (sym name) ∙ none in
          let nowhere : far rs h.step ≡ 0 = far_none rs h.step (λ r j same. let positive = (replay.0.0 r j).0 in omega (arith, positive, same, zero_step)) in
          omega (arith, own, nowhere)
      | inr m ↦
          let number : h.step ≡ m.0.number = ap (λ (z : GoalName). z.step) (sym name) ∙ m.2 in
          let front = far_front p.before (maker ∷ p.behind) h.step (subst (λ n. In n (numbers p.before)) (sym number) (number_in p.before m.0 m.1)) in
          let whole = ap (λ l. far l h.step) p.split in
          omega (arith, own, front, whole)
    ]

-- a goal that the step of its number did not make was made by none
pub not_of_it : (rs : List Record) (maker : Record) (g : GoalName) → AreDistinct (numbers rs) → In maker rs → maker.number ≡ g.step → ¬ MakesGoal maker g → (r : Record) → In r rs → ¬ MakesGoal r g
not_of_it rs maker g distinct i e makes_not r j m = makes_not (subst (λ (z : Record). MakesGoal z g) (record_once rs r maker distinct j i (sym m.0 ∙ sym e)) m)

-- what the test of names tells
pub one_goal : (g h : GoalName) (b : Bool) → b ≡ not (same g h) → b ≡ false → g ≡ h
one_goal g h b e no_other = elim (same g h) as (λ s. same g h ≡ s → g ≡ h) [
  | true ↦ λ p. same_goal g h (sym (same_is g h) ∙ p)
  | false ↦ λ p. let clash : true ≡ false = ap not (sym p) ∙ sym e ∙ no_other in cc
] refl

pub other_goal : (g h : GoalName) (b : Bool) → b ≡ not (same g h) → b ≡ true → ¬ (g ≡ h)
other_goal g h b e other is = let clash : true ≡ false = sym other ∙ e ∙ ap (λ z. not (same z h)) is ∙ ap not (same_is h h ∙ goal_itself h) in cc
