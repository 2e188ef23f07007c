-- A replay's steps, but for any on which none of the rest depends, can be taken again in any order with each after all that it depends on.
use Rattle.ghc_depend.proofs.Words.{◌≡◌, List, [], ◌∷◌, ◌++◌, refl, sym, ap, ◌∙◌, subst, inl, inr, Some, append_assoc, append-nil, Option, is_some, option_or, VarName, Tree, In, IsAcyclic, value_at, reaches_more, in_left, in_right, Program, Query, with_bindings, AreDistinct, State, Record, numbers, after, Fires, query_state, Runs, Replays, AreKnownIn, before_is, Uses, DependsOn}
use Rattle.std.specs.FinMap as finite
use Rattle.ghc_depend.proofs.Finding.{by_option, own_made}
use Rattle.ghc_depend.proofs.Extending.{effect_elsewhere}
use Rattle.ghc_depend.proofs.Results.{Taken, firing, asking_fires, step_binds, fires, IsUntaken, Results, query_unmade, at_first, bound_by, goal_by, with_step}
use Rattle.ghc_depend.proofs.Placing.{apart_at, Place, results_of, place_of, in_front, front_in, consumed_once, bound_once}

-- in the list, each step stands after all on which it depends
abbrev pub StandBehind : List Record → List Record → Type 0
StandBehind rs new = (front back : List Record) (r a : Record) → new ≡ front ++ r ∷ back → DependsOn rs r a → In a front

-- a part of an acyclic store is acyclic
pub acyclic_part : (S F : VarName → Option Tree) → ((x : VarName) (t : Tree) → S x ≡ Some t → F x ≡ Some t) → IsAcyclic F → IsAcyclic S
acyclic_part S F h acyclic x t e r = acyclic x t (h x t e) (reaches_more r h)

module _ (P : Program) (query : Query) (rs : List Record) (t : State) (replay : Replays P query rs t) (acyclic : IsAcyclic (value_at t.store))
    (new : List Record) (among : (r : Record) → In r new → In r rs) (distinct : AreDistinct (numbers new)) (behind : StandBehind rs new) where
  full : Results query rs t
  full = results_of P query rs t replay

  module _ (front back : List Record) (r : Record) (e : new ≡ front ++ r ∷ back) where
    there : In r rs
    there = among r (subst (In r) (sym e) (in_right front (r ∷ back) r (inl refl)))

    front_there : (c : Record) → In c front → In c rs
    front_there c i = among c (subst (In c) (sym e) (in_left front (r ∷ back) c i))

    not_itself : (c : Record) → In c front → ¬ (c ≡ r)
    not_itself c i same = apart_at front back r (subst (λ z. AreDistinct (numbers z)) e distinct) c i (ap (λ (z : Record). z.number) (sym same))

    place : Place P query rs r
    place = place_of P query rs t replay r there

    -- on what stood in front of it, it depends only where that stands in front of it again
    depends : (m : Record) → In m place.before → Uses r m → In m front
    depends m i d = behind front back r m e (before_is rs m r (in_front P query rs t replay r m place i), d)

    -- what it names is known again
    known_there : AreKnownIn query front r
    known_there x n = elim (replay.2 place.before place.behind r place.split x n) [
      | inl q ↦ inl q
      | inr m ↦ inr (m.0, depends m.0 m.1 (inr (inr (x, (n, m.2)))), m.2)
    ]

    module _ (v : State) (h : Results query front v) where
      part : (x : VarName) (u : Tree) → value_at v.store x ≡ Some u → value_at t.store x ≡ Some u
      part x u b = let c = bound_by query front v h x u b in full.bound c.0 x u (front_there c.0 c.1) c.2

      module _ (step : Taken P place.state r) where
        untaken : IsUntaken front step.name
        untaken c i f = not_itself c i (consumed_once P query rs t replay r c step.name there (front_there c i) step.named f)

        goal_there : finite.get v.goals step.name ≡ Some step.goal
        goal_there = elim (goal_by query place.before place.state place.results step.name step.goal step.there) [
          | inl m ↦ h.made m.0 step.name step.goal (depends m.0 m.1 (inl (step.name, step.named, own_made m.0 step.name step.goal m.2))) m.2 untaken
          | inr q ↦ h.rest step.name (query_unmade query front (λ c i. (replay.0.0 c (front_there c i)).0) step.name step.goal q.1) untaken ∙ q.1
        ]

        taken_there : Fires P v r
        taken_there = fires P v r step.name step.goal step.named step.consumed goal_there (effect_elsewhere P step.goal r.act r.number (value_at t.store) (value_at place.state.store) (value_at v.store) r.effect step.effect (record {
          part = λ x u b. let c = bound_by query place.before place.state place.results x u b in full.bound c.0 x u (front_in P query rs t replay r c.0 place c.1) c.2;
          other_part = part;
          reads = λ x i.
              let w = (step_binds P place.state r place.fires).reads_bound x i in
              let c = bound_by query place.before place.state place.results x w.0 w.1 in
              h.bound c.0 x w.0 (depends c.0 c.1 (inr (inl (x, (i, ap is_some c.2))))) c.2 ∙ sym w.1;
          free = λ x u b. h.unbound x (λ c i. by_option (value_at c.effect.binds x) (λ n. n) (λ w f. absurd (not_itself c i (bound_once P query rs t replay r c x u w there (front_there c i) b f))));
          acyclic = acyclic_part (with_bindings r.effect.binds (value_at v.store)) (value_at t.store) (λ x u b.
              by_option (value_at r.effect.binds x)
              (λ n. part x u (sym (ap (λ o. option_or o (value_at v.store x)) n) ∙ b))
              (λ w f. full.bound r x u there (f ∙ sym (ap (λ o. option_or o (value_at v.store x)) f) ∙ b))) acyclic;
        }))

      pub fires_there : Fires P v r
      fires_there = elim (firing P place.state r place.fires) [ inl step ↦ taken_there step | inr asks ↦ asking_fires P v r asks ]

  runs_there : (done rest : List Record) (v : State) → new ≡ done ++ rest → Results query done v → (u : State) × Runs P v rest u × Results query new u
  runs_there done [] v e h = (v, refl, subst (λ z. Results query z v) (sym (e ∙ append-nil done)) h)
  runs_there done (r ∷ rest) v e h =
      let f = fires_there done rest r e v h in
      let more = with_step query done v h P r f (replay.0.0 r (there done rest r e)).0 (apart_at done rest r (subst (λ z. AreDistinct (numbers z)) e distinct)) in
      let next = runs_there (done ++ r ∷ []) rest (after v r) (e ∙ sym (append_assoc done (r ∷ []) rest)) more in
      (next.0, (f, next.1), next.2)

  -- they replay to a state with their results
  pub works : (u : State) × Replays P query new u × Results query new u
  works = let run = runs_there [] new (query_state query) refl (at_first query) in (run.0, ((λ r i. replay.0.0 r (among r i), distinct), run.1, λ front back r e. known_there front back r e), run.2)
