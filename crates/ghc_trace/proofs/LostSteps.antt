-- The steps that lost a variable are those that let go of the variables that reach it.
use Rattle.ghc_trace.proofs.Words.{◌≡◌, ◌⊎◌, ◌↔◌, ◌+◌, ◌≤◌, Bool, true, false, not, ℕ, suc, List, [], ◌∷◌, ◌++◌, length, drop, refl, sym, ap, ◌∙◌, subst, inl, inr, append_assoc, append-nil, arith, Option, Some, None, IsTrue, VarName, Variables, Tree, Goal, In, Record, World, value_at, Picks, nothing, leave_last, pick_last, SlotList, StandsIn, held_in, drop_all}
use Rattle.std.specs.FinSet as set
use Rattle.ghc_term.specs.Bindings.{Reaches}
use Rattle.ghc_term.specs.Sets.{IsSetOf}
use Rattle.ghc_fire.specs.declared.act.Act.TheVariants.{ByClause as by_clause}
use Rattle.ghc_depend.proofs.TakenTogether.{picks_as}
use Rattle.ghc_trace.specs.Holding.{GoalReaches}
use Rattle.ghc_trace.specs.WhyNot.{AreLostLines, HasLost, and_variable, lost_line, lost_lines}
use Rattle.ghc_trace.specs.inner.Backward.{AreAllParents, IsAncestor, Parents}
use Rattle.ghc_trace.specs.inner.WhyNotCode.{GoalHasOneOf, LetsGoOf, SomeHasOneOf}
use Rattle.ghc_trace.proofs.Ancestors.{reaches_by}
use Rattle.ghc_trace.proofs.Slicing.{opened, step_at}

module _ (w : World) (y : VarName) (m : Parents) (are : AreAllParents (value_at w.state.store) m) (xs : Variables) (is : IsSetOf xs (IsAncestor m (λ v. In v (y ∷ [])))) where
  goal_has : (b : Goal) → GoalHasOneOf xs b ↔ GoalReaches (value_at w.state.store) b y
  goal_has b = (
    λ h. (h.0, h.1, (reaches_by (value_at w.state.store) m y are xs is h.0).0 h.2),
    λ r. (r.0, r.1, (reaches_by (value_at w.state.store) m y are xs is r.0).1 r.2),
  )

  lost_it : (r : Record) → In r w.kept → LetsGoOf xs r → HasLost w y r
  lost_it r i l = record {
    kept = i;
    by_some_clause = l.by_some_clause;
    had = (l.had.0, l.had.1, (goal_has l.had.0).0 l.had.2);
    gave_on = λ c made r. l.gave_on (c, made, (goal_has c).1 r);
  }

  let_it_go : (r : Record) → HasLost w y r → LetsGoOf xs r
  let_it_go r l = record {
    by_some_clause = l.by_some_clause;
    had = (l.had.0, l.had.1, (goal_has l.had.0).1 l.had.2);
    gave_on = λ s. l.gave_on s.0 s.1 ((goal_has s.0).0 s.2);
  }

  pub lost_are : (steps : List Record) → Picks (LetsGoOf xs) w.kept steps → Picks (HasLost w y) w.kept steps
  lost_are steps picked = picks_as w.kept steps (λ r i l. lost_it r i l) (λ r i n l. n (let_it_go r l)) picked

-- whether a step lets go
module _ (xs : Variables) (r : Record) where
  pub by_no_clause : ¬ ((k : ℕ) × (r.act ≡ by_clause k)) → IsTrue false ↔ LetsGoOf xs r
  by_no_clause n = (λ h. let clash : false ≡ true = h in absurd (cc), λ l. absurd (n l.by_some_clause))

  pub took_none : r.consumed ≡ None → IsTrue false ↔ LetsGoOf xs r
  took_none none = (λ h. let clash : false ≡ true = h in absurd (cc), λ l. let clash : None ≡ Some l.had.0 = sym none ∙ l.had.1 in absurd (cc))

  pub took_other : (b : Goal) → r.consumed ≡ Some b → ¬ GoalHasOneOf xs b → IsTrue false ↔ LetsGoOf xs r
  took_other b took n = (
    λ h. let clash : false ≡ true = h in absurd (cc),
    λ l.
        let one : Some l.had.0 ≡ Some b = sym l.had.1 ∙ took in
        let same : l.had.0 ≡ b = cc in
        absurd (n (subst (GoalHasOneOf xs) same l.had.2)),
  )

  pub took_one : (k : ℕ) × (r.act ≡ by_clause k) → (b : Goal) → r.consumed ≡ Some b → GoalHasOneOf xs b → (given : Bool) → IsTrue given ↔ SomeHasOneOf xs r.effect.makes → IsTrue (not given) ↔ LetsGoOf xs r
  took_one by b took has true is = (λ h. let clash : false ≡ true = h in absurd (cc), λ l. absurd (l.gave_on (is.0 refl)))
  took_one by b took has false is = (
    λ _. record { by_some_clause = by; had = (b, took, has); gave_on = λ s. let clash : false ≡ true = is.1 s in cc },
    λ _. refl,
  )

-- one line more
pub lines_more : (y : VarName) (rs : List Record) (r : Record) → lost_lines y (rs ++ r ∷ []) ≡ lost_lines y rs ++ lost_line y r
lines_more y [] r = append-nil (lost_line y r)
lines_more y (q ∷ rs) r = ap (λ t. lost_line y q ++ t) (lines_more y rs r) ∙ sym (append_assoc (lost_line y q) (lost_lines y rs) (lost_line y r))

-- how far the pass over the records has come
pub record Passing (xs : Variables) (y : VarName) (ss : SlotList) (place : ℕ) (old new : List ℕ) : Type 0 where
  pub done : List Record
  pub steps : List Record
  pub split : done ++ held_in (drop place ss) ≡ held_in ss
  pub picked : Picks (LetsGoOf xs) done steps
  pub written : new ≡ old ++ lost_lines y steps

module _ (xs : Variables) (y : VarName) (ss : SlotList) where
  pub passing_begins : (old : List ℕ) → Passing xs y ss 0 old old
  passing_begins old = record { done = []; steps = []; split = refl; picked = nothing; written = sym (append-nil old) }

  module _ (place : ℕ) (old mid : List ℕ) (p : Passing xs y ss place old mid) where
    next : drop (place + 1) ss ≡ drop (suc place) ss
    next = let one : place + 1 ≡ suc place = omega arith in ap (λ k. drop k ss) one

    pub passes_gap : ((a : Record) → ¬ StandsIn ss place a) → Passing xs y ss (place + 1) old mid
    passes_gap none =
        let gap : held_in (drop place ss) ≡ held_in (drop (place + 1) ss) = elim (step_at ss place) [ inl e ↦ e ∙ ap (λ l. held_in l) (sym next) | inr a ↦ absurd (none a.0 a.1) ] in
        record { done = p.done; steps = p.steps; split = ap (λ l. p.done ++ l) (sym gap) ∙ p.split; picked = p.picked; written = p.written }

    pub passes_step : (r : Record) (new : List ℕ) → StandsIn ss place r
        → (LetsGoOf xs r × (new ≡ mid ++ lost_line y r)) ⊎ ((¬ LetsGoOf xs r) × (new ≡ mid)) → Passing xs y ss (place + 1) old new
    passes_step r new stands step =
        let at : held_in (drop place ss) ≡ r ∷ held_in (drop (place + 1) ss) = opened ss place r stands ∙ ap (λ l. r ∷ held_in l) (sym next) in
        let splits : (p.done ++ r ∷ []) ++ held_in (drop (place + 1) ss) ≡ held_in ss = append_assoc p.done (r ∷ []) (held_in (drop (place + 1) ss)) ∙ ap (λ l. p.done ++ l) (sym at) ∙ p.split in
        elim step [
          | inl l ↦ record {
            done = p.done ++ r ∷ [];
            steps = p.steps ++ r ∷ [];
            split = splits;
            picked = pick_last p.done p.steps r p.picked l.0;
            written = l.1 ∙ ap (λ t. t ++ lost_line y r) p.written ∙ append_assoc old (lost_lines y p.steps) (lost_line y r) ∙ ap (λ t. old ++ t) (sym (lines_more y p.steps r));
          }
          | inr n ↦ record {
            done = p.done ++ r ∷ [];
            steps = p.steps;
            split = splits;
            picked = leave_last p.done p.steps r p.picked n.0;
            written = n.1 ∙ p.written;
          }
        ]

    pub passing_ends : length ss ≤ place → (steps : List Record) × Picks (LetsGoOf xs) (held_in ss) steps × (mid ≡ old ++ lost_lines y steps)
    passing_ends high =
        let all : p.done ≡ held_in ss = sym (append-nil p.done) ∙ ap (λ l. p.done ++ held_in l) (sym (drop_all place ss high)) ∙ p.split in
        (p.steps, subst (λ (l : List Record). Picks (LetsGoOf xs) l p.steps) all p.picked, p.written)

-- the lines of one variable more
pub one_lost : (w : World) (ys : List VarName) (y : VarName) (old mid new : List ℕ) → ((text : List ℕ) × AreLostLines w ys text × (mid ≡ old ++ text))
    → ((steps : List Record) × Picks (HasLost w y) w.kept steps × (new ≡ mid ++ lost_lines y steps)) → (text : List ℕ) × AreLostLines w (ys ++ y ∷ []) text × (new ≡ old ++ text)
one_lost w ys y old mid new before lines =
    (before.0 ++ lost_lines y lines.0, and_variable y lines.0 before.1 lines.1, lines.2 ∙ ap (λ t. t ++ lost_lines y lines.0) before.2 ∙ append_assoc old before.0 (lost_lines y lines.0))
