-- An order in which the kept steps replay is lawful; and two steps that are possible make a square.
use Rattle.ghc_depend.proofs.Words.{◌≡◌, ◌≤◌, ℕ, List, [], ◌∷◌, ◌++◌, refl, sym, ap, ◌∙◌, subst, inl, inr, arith, In, in_left, in_right, in_either, Program, Query, IsQuery, AreDistinct, State, Record, numbers, Replays, Before, is_before, before_once, number_in, number_of, of_query, records_distinct, Uses, IsTooEarly}
use Rattle.ghc_depend.specs.Laws.{ReplayingOrdersAreLawful, StepsSquare}
use Rattle.ghc_depend.proofs.Finding.{ends}
use Rattle.ghc_depend.proofs.Decided.{by_records}
use Rattle.ghc_depend.proofs.Results.{taken_at, step_binds, bound_by, is_old}
use Rattle.ghc_depend.proofs.Placing.{Place, apart_at, results_of, place_of, in_front, front_in, bound_once, numbered_once}
use Rattle.ghc_depend.proofs.Comparing.{same_state, bound_value}
use Rattle.ghc_depend.proofs.Arranging.{neighbours}

-- what has the number of a step is not the query's
pub no_query : (s n : ℕ) → s ≡ 0 → s ≡ n → 1 ≤ n → ⊥
no_query s n zero_step number positive = omega arith

module _ (P : Program) (query : Query) (new : List Record) (u : State) (asked : IsQuery P query) (again : Replays P query new u) where
  -- what a step uses stands in front of it
  pub used_in_front : (b a : Record) → In a new → (j : In b new) → Uses b a → In a (place_of P query new u again b j).before
  used_in_front b a i j (inl c) =
      let p = place_of P query new u again b j in
      let k = taken_at P p.state b p.fires c.0 c.1 in
      elim (is_old query p.before p.state p.results c.0 k.0 k.1) [
        | inl zero_step ↦ absurd (no_query c.0.step a.number zero_step c.2.0 (again.0.0 a i).0)
        | inr m ↦ subst (λ z. In z p.before) (numbered_once P query new u again a m.0 i (front_in P query new u again b m.0 p m.1) (sym c.2.0 ∙ m.2)) m.1
      ]
  used_in_front b a i j (inr (inl r)) =
      let p = place_of P query new u again b j in
      let w = (step_binds P p.state b p.fires).reads_bound r.0 r.1.0 in
      let c = bound_by query p.before p.state p.results r.0 w.0 w.1 in
      let v = bound_value a r.0 r.1.1 in
      subst (λ z. In z p.before) (bound_once P query new u again a c.0 r.0 v.0 w.0 i (front_in P query new u again b c.0 p c.1) v.1 c.2) c.1
  used_in_front b a i j (inr (inr n)) =
      let p = place_of P query new u again b j in
      elim (again.2 p.before p.behind b p.split n.0 n.1.0) [
        | inl q ↦ absurd (no_query n.0.step a.number (of_query P query n.0 asked q) n.1.1.0 (again.0.0 a i).0)
        | inr m ↦ subst (λ z. In z p.before) (numbered_once P query new u again a m.0 i (front_in P query new u again b m.0 p m.1) (sym n.1.1.0 ∙ m.2.0)) m.1
      ]

pub turned : ReplayingOrdersAreLawful
turned P query kept t order new u asked replay again o =
    let distinct : AreDistinct (numbers new) = again.0.1 in
    let of_kept : (n : ℕ) → In n order → In n (numbers kept) = λ n i.
    let q = number_of new n (subst (In n) (sym o.0) i) in
    subst (λ z. In z (numbers kept)) q.2 (number_in kept q.0 ((o.1 q.0).0 q.1)) in
    let all : (n : ℕ) → In n (numbers kept) → In n order = λ n i.
    let q = number_of kept n i in
    subst (λ z. In z order) q.2 (subst (In q.0.number) o.0 (number_in new q.0 ((o.1 q.0).1 q.1))) in
    let early : (a b : Record) → ¬ IsTooEarly kept order a b = λ a b e.
    let k = ends kept b a e.0 in
    let i = (o.1 a).1 k.0 in
    let j = (o.1 b).1 k.1 in
    let p = place_of P query new u again b j in
    let in_time : Before new a b = in_front P query new u again b a p (used_in_front P query new u asked again b a i j e.0.1) in
    let back : Before new b a = by_records new b a distinct j i (subst (λ z. Before z b.number a.number) (sym o.0) (is_before order b.number a.number e.1)) in
    before_once new a b (records_distinct new distinct) in_time back in
    ((((of_kept, subst AreDistinct o.0 distinct), all), early), same_state query new kept u t (results_of P query new u again) (results_of P query kept t replay) (λ r i. (o.1 r).0 i) (λ r i. (o.1 r).1 i))

-- after the same steps, a and b are possible, and b is possible after a too
module _ (P : Program) (query : Query) (front : List Record) (a b : Record) (s t : State) (asked : IsQuery P query)
    (alone : Replays P query (front ++ b ∷ []) s) (both : Replays P query (front ++ a ∷ b ∷ []) t) where
  place : Place P query (front ++ b ∷ []) b
  place = place_of P query (front ++ b ∷ []) s alone b (in_right front (b ∷ []) b (inl refl))

  -- what stands in front of b alone, stands in front of a
  of_front : (m : Record) → In m place.before → In m front
  of_front m i = elim (in_either front (b ∷ []) m (front_in P query (front ++ b ∷ []) s alone b m place i)) [
    | inl k ↦ k
    | inr (inl same) ↦
        let itself = subst (λ z. Before (front ++ b ∷ []) z b) same (in_front P query (front ++ b ∷ []) s alone b m place i) in
        absurd (before_once (front ++ b ∷ []) b b (records_distinct (front ++ b ∷ []) alone.0.1) itself itself)
    | inr (inr k) ↦ absurd k
  ]

  of_both : (m : Record) → In m place.before → In m (front ++ a ∷ b ∷ [])
  of_both m i = in_left front (a ∷ b ∷ []) m (of_front m i)

  a_there : In a (front ++ a ∷ b ∷ [])
  a_there = in_right front (a ∷ b ∷ []) a (inl refl)

  not_a : (m : Record) → In m place.before → ¬ (a.number ≡ m.number)
  not_a m i = apart_at front (b ∷ []) a both.0.1 m (of_front m i)

  uses_nothing : ¬ Uses b a
  uses_nothing (inl c) =
      let k = taken_at P place.state b place.fires c.0 c.1 in
      elim (is_old query place.before place.state place.results c.0 k.0 k.1) [
        | inl zero_step ↦ no_query c.0.step a.number zero_step c.2.0 (both.0.0 a a_there).0
        | inr m ↦ not_a m.0 m.1 (sym c.2.0 ∙ m.2)
      ]
  uses_nothing (inr (inl r)) =
      let w = (step_binds P place.state b place.fires).reads_bound r.0 r.1.0 in
      let c = bound_by query place.before place.state place.results r.0 w.0 w.1 in
      let v = bound_value a r.0 r.1.1 in
      not_a c.0 c.1 (ap (λ (z : Record). z.number) (sym (bound_once P query (front ++ a ∷ b ∷ []) t both a c.0 r.0 v.0 w.0 a_there (of_both c.0 c.1) v.1 c.2)))
  uses_nothing (inr (inr n)) =
      elim (alone.2 place.before place.behind b place.split n.0 n.1.0) [
        | inl q ↦ no_query n.0.step a.number (of_query P query n.0 asked q) n.1.1.0 (both.0.0 a a_there).0
        | inr m ↦ not_a m.0 m.1 (sym n.1.1.0 ∙ m.2.0)
      ]

pub square : StepsSquare
square P query front a b s t accepted asked alone both = neighbours P query front [] a b t accepted asked both (λ d. uses_nothing P query front a b s t asked alone both d.1)
