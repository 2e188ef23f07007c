-- The slice of a variable replays alone, and is the least part that gives the variable its term.
use Rattle.ghc_depend.proofs.Words.{◌≡◌, List, [], ◌∷◌, sym, ◌∙◌, subst, inl, inr, arith, VarName, In, value_at, Program, Query, IsProgram, IsQuery, State, Record, Replays, Picks, nothing, leave, of_query, replay_well, directly, further, IsBoundIn, IsConsumedIn, IsMadeIn, IsClosedUnder, IsPartedBy, GoalName}
use Rattle.ghc_records.specs.Orders.{take}
use Rattle.ghc_records.specs.Replay.{IsVariableOf}
use Rattle.ghc_depend.specs.Slices.{IsCauseOf, root, cause, Gave, SameFrom, IsSliceOf, SliceIsLeast, SlicesAreLeast, GaveGoal, IsThereAlike, IsGoalSliceOf, GoalSliceIsLeast, GoalSlicesAreLeast}
use Rattle.ghc_depend.proofs.Finding.{ends}
use Rattle.std.specs.Prelude.{Some}
use Rattle.std.specs.FinMap as finite
use Rattle.ghc_term.specs.Bindings.{Reaches}
use Rattle.ghc_term.specs.Goal.{Goal}
use Rattle.ghc_term.specs.Tree.{variable}
use Rattle.ghc_match.specs.Looked.{GoalLooksAt}
use Rattle.ghc_depend.proofs.Results.{bound_by, is_old, untaken}
use Rattle.ghc_depend.proofs.Placing.{results_of, bound_once, numbered_once}
use Rattle.ghc_depend.proofs.Picking.{picks_in, picks_has}
use Rattle.ghc_depend.proofs.Comparing.{bound_value}
use Rattle.ghc_depend.proofs.Deleting as deleting

-- what is picked by a property is picked by its double denial
pub doubly : {X : Type 0} {Q : X → Type 0} (xs ys : List X) → Picks Q xs ys → Picks (λ x. ¬ ¬ Q x) xs ys
doubly [] ys nothing = nothing
doubly (x ∷ xs) ys (take q p) = take (λ n. n q) (doubly xs _ p)
doubly (x ∷ xs) ys (leave n p) = leave (λ d. d n) (doubly xs ys p)

module _ (kept : List Record) (roots : Record → Type 0) where
  -- what is no cause has no consequence that is one
  pub rest_is_closed : IsClosedUnder kept (λ r. ¬ IsCauseOf kept roots r)
  rest_is_closed a b none (directly d) c = none (cause c d)
  rest_is_closed a b none (further {b = m} f d) c = rest_is_closed a m none f (cause c d)

module _ (P : Program) (query : Query) (kept : List Record) (t : State) (x : VarName) (slice rest : List Record) (accepted : IsProgram P) (asked : IsQuery P query)
    (replay : Replays P query kept t) (known : IsVariableOf query kept x) (parts : IsSliceOf kept t x slice rest) where
  abbrev roots : Record → Type 0
  roots = Gave (value_at t.store) x

  in_slice : (r : Record) → In r kept → IsCauseOf kept roots r → In r slice
  in_slice r i c = elim (picks_has kept slice r parts.0 i) [ inl j ↦ j | inr n ↦ absurd (n c) ]

  unbound_by_rest : (y : VarName) → Reaches (value_at t.store) (variable x) y → ¬ IsBoundIn rest y
  unbound_by_rest y reached b = (picks_in kept rest b.0 parts.1 b.1).1 (root (inl (y, reached, b.2)))

  alone : (u : State) × Replays P query slice u × IsVariableOf query slice x × SameFrom x (value_at t.store) (value_at u.store)
  alone =
      let well = replay_well P query kept t accepted asked replay in
      let u = deleting.replays P query kept t replay (λ r. ¬ IsCauseOf kept roots r) rest slice (parts.1, doubly kept slice parts.0) well.acyclic (rest_is_closed kept roots) in (
        u.0,
        u.1,
        elim known [ inl q ↦ inl q | inr m ↦ inr (m.0, in_slice m.0 m.1 (root (inr m.2)), m.2) ],
        λ y reached. u.2.bound y (unbound_by_rest y reached),
      )

  module _ (others part : List Record) (v : State) (split : IsPartedBy kept (λ r. In r others) others part) (again : Replays P query part v) (there : IsVariableOf query part x)
      (same : SameFrom x (value_at t.store) (value_at v.store)) where
    of_part : (r : Record) → In r part → In r kept
    of_part r i = deleting.of_left P query kept t replay (λ r. In r others) others part split r i

    stays : (r : Record) → In r kept → IsCauseOf kept roots r → ¬ In r others
    stays r i (root (inl g)) j =
        let bound = bound_value r g.0 g.2 in
        let in_t = (results_of P query kept t replay).bound r g.0 bound.0 i bound.1 in
        let by = bound_by query part v (results_of P query part v again) g.0 bound.0 (same g.0 g.1 ∙ in_t) in
        let one = bound_once P query kept t replay r by.0 g.0 bound.0 bound.0 i (of_part by.0 by.1) bound.1 by.2 in
        deleting.apart P query kept t replay (λ r. In r others) others part split r j (subst (λ z. In z part) one by.1)
    stays r i (root (inr m)) j = elim there [
      | inl q ↦ let zero_step : x.step ≡ 0 = of_query P query x asked q in let number = m.0 in let positive = (replay.0.0 r i).0 in omega arith
      | inr k ↦
          let one = numbered_once P query kept t replay r k.0 i (of_part k.0 k.1) (sym m.0 ∙ k.2.0) in
          deleting.apart P query kept t replay (λ r. In r others) others part split r j (subst (λ z. In z part) one k.1)
    ]
    stays r i (cause {b = b} c d) j =
        stays b (ends kept b r d).1 c (deleting.closed P query kept t replay (λ r. In r others) others part split asked v again r b j (directly d))

    has : (r : Record) → In r slice → In r part
    has r i =
        let p = picks_in kept slice r parts.0 i in
        elim (deleting.parted P query kept t replay (λ r. In r others) others part split r p.0) [ inl j ↦ absurd (stays r p.0 p.1 j) | inr k ↦ k ]

  pub is_least : SliceIsLeast P query kept t x slice
  is_least = record { alone = alone; least = has }

pub slices : SlicesAreLeast
slices P query kept t x slice rest accepted asked replay known parts = is_least P query kept t x slice rest accepted asked replay known parts

-- The same of a goal that is there.
module _ (P : Program) (query : Query) (kept : List Record) (t : State) (g : GoalName) (b : Goal) (slice rest : List Record) (accepted : IsProgram P) (asked : IsQuery P query)
    (replay : Replays P query kept t) (stands : finite.get t.goals g ≡ Some b) (parts : IsGoalSliceOf P kept t g b slice rest) where
  abbrev goal_roots : Record → Type 0
  goal_roots = GaveGoal P (value_at t.store) g b

  not_looked_at : (y : VarName) → GoalLooksAt P (value_at t.store) b y → ¬ IsBoundIn rest y
  not_looked_at y looked m = (picks_in kept rest m.0 parts.1 m.1).1 (root (inr (y, looked, m.2)))

  not_made : ¬ IsMadeIn rest g
  not_made m = (picks_in kept rest m.0 parts.1 m.1).1 (root (inl m.2))

  not_consumed : ¬ IsConsumedIn rest g
  not_consumed m = untaken query kept t (results_of P query kept t replay) g b stands m.0 (picks_in kept rest m.0 parts.1 m.1).0 m.2

  goal_alone : (u : State) × Replays P query slice u × IsThereAlike P g b (value_at t.store) u
  goal_alone =
      let well = replay_well P query kept t accepted asked replay in
      let u = deleting.replays P query kept t replay (λ r. ¬ IsCauseOf kept goal_roots r) rest slice (parts.1, doubly kept slice parts.0) well.acyclic (rest_is_closed kept goal_roots) in
      (u.0, u.1, (u.2.others g not_made not_consumed ∙ stands, λ y looked. u.2.bound y (not_looked_at y looked)))

  module _ (others part : List Record) (v : State) (split : IsPartedBy kept (λ r. In r others) others part) (again : Replays P query part v)
      (alike : IsThereAlike P g b (value_at t.store) v) where
    of_it : (r : Record) → In r part → In r kept
    of_it r i = deleting.of_left P query kept t replay (λ r. In r others) others part split r i

    goal_stays : (r : Record) → In r kept → IsCauseOf kept goal_roots r → ¬ In r others
    goal_stays r i (root (inr m)) j =
        let bound = bound_value r m.0 m.2 in
        let in_t = (results_of P query kept t replay).bound r m.0 bound.0 i bound.1 in
        let by = bound_by query part v (results_of P query part v again) m.0 bound.0 (alike.1 m.0 m.1 ∙ in_t) in
        let one = bound_once P query kept t replay r by.0 m.0 bound.0 bound.0 i (of_it by.0 by.1) bound.1 by.2 in
        deleting.apart P query kept t replay (λ r. In r others) others part split r j (subst (λ z. In z part) one by.1)
    goal_stays r i (root (inl m)) j = elim (is_old query part v (results_of P query part v again) g b alike.0) [
      | inl zero_step ↦ let number = m.0 in let positive = (replay.0.0 r i).0 in omega arith
      | inr k ↦
          let one = numbered_once P query kept t replay r k.0 i (of_it k.0 k.1) (sym m.0 ∙ k.2) in
          deleting.apart P query kept t replay (λ r. In r others) others part split r j (subst (λ z. In z part) one k.1)
    ]
    goal_stays r i (cause {b = c} h d) j =
        goal_stays c (ends kept c r d).1 h (deleting.closed P query kept t replay (λ r. In r others) others part split asked v again r c j (directly d))

    goal_has : (r : Record) → In r slice → In r part
    goal_has r i =
        let p = picks_in kept slice r parts.0 i in
        elim (deleting.parted P query kept t replay (λ r. In r others) others part split r p.0) [ inl j ↦ absurd (goal_stays r p.0 p.1 j) | inr k ↦ k ]

  pub goal_is_least : GoalSliceIsLeast P query kept t g b slice
  goal_is_least = record { alone = goal_alone; least = goal_has }

pub goal_slices : GoalSlicesAreLeast
goal_slices P query kept t g b slice rest accepted asked replay stands parts = goal_is_least P query kept t g b slice rest accepted asked replay stands parts
