-- How a goal is told that a step of a slice made, or that the query has.
use Rattle.ghc_trace.proofs.Words.{◌≡◌, ℕ, ◌+◌, List, refl, sym, ap, ◌∙◌, subst, inl, inr, arith, Some, None, codes, slice_get, slice_get_within, GoalName, Goal, Tree, call, unify, assign, stream, In, Program, Query, State, Record, Replays, goal_cmp, own, own_made, place_of, same_value}
use Rattle.std.specs.FinMap as finite
use Rattle.std.specs.FinSet as set
use Rattle.ghc_term.specs.GoalText.{goal_text}
use Rattle.ghc_fire.specs.declared.act.Act.TheVariants.{Closed as closed}
use Rattle.ghc_records.proofs.States.{made_at}
use Rattle.ghc_records.specs.Record.{with_makes}
use Rattle.ghc_depend.proofs.Finding.{find_consumed, made_own, not_both}
use Rattle.ghc_depend.proofs.Placing.{front_in, numbered_once, results_of}
use Rattle.ghc_depend.proofs.Results.{IsUntaken, goal_by, of_query, query_unmade, taken_at}
use Rattle.ghc_trace.specs.declared.blame_lines.Told.{Told}
use Rattle.ghc_trace.specs.BlameLines.{only}
use Rattle.ghc_trace.specs.Blaming.{IsCall}
use Rattle.ghc_trace.specs.PartLines.{IsShown, TellsMade, a_stream, assignment, equation, gave, made_line, stands}
use Rattle.ghc_trace.specs.inner.BlameLinesCode.{AreGoalsOf, HasFate, IsAbout, IsGoalOf}

-- a record that makes these goals
abbrev making : ℕ → List Goal → Record
making n gs = record { number = n; goal = None; consumed = None; act = closed; effect = record { reads = set.empty; binds = finite.empty; makes = gs; fresh = 0 } }

-- the goal at an index of those that are named by a number
pub named_at : (n : ℕ) (gs : List Goal) (i : ℕ) (b : Goal) → slice_get gs i ≡ Some b → finite.get (with_makes n 1 gs finite.empty) (record { step = n; place = i + 1 }) ≡ Some b
named_at n gs i b at =
    let name : GoalName = record { step = n; place = i + 1 } in
    let low = slice_get_within gs i b at in
    let m = made_own (making n gs) name (refl, omega arith, omega (arith, low)) in
    elim (made_at n 1 gs finite.empty name m.0 m.1) [
      | inl p ↦ let place = p.3 in let index : p.0 ≡ i = omega (arith, place) in m.1 ∙ sym p.1 ∙ ap (slice_get gs) index ∙ at
      | inr none ↦ absurd (not_both none (finite.get-empty goal_cmp name))
    ]

pub goal_at : (query : Query) (rs : List Record) (n : ℕ) (gs : List Goal) (i : ℕ) (b : Goal) → AreGoalsOf query rs n gs → slice_get gs i ≡ Some b → IsGoalOf query rs (record { step = n; place = i + 1 }) b
goal_at query rs n gs i b (inl p) at =
    inl (subst (λ k. finite.get (with_makes 0 1 query finite.empty) (record { step = k; place = i + 1 }) ≡ Some b) (sym p.0) (named_at 0 query i b (ap (λ l. slice_get l i) p.1 ∙ at)))
goal_at query rs n gs i b (inr p) at =
    let r = p.0 in
    inr (r, p.1.0, subst (λ k. finite.get (with_makes r.number 1 r.effect.makes finite.empty) (record { step = k; place = i + 1 }) ≡ Some b) p.1.1 (named_at r.number r.effect.makes i b (ap (λ l. slice_get l i) p.2 ∙ at)))

module _ (P : Program) (query : Query) (rs : List Record) (t : State) (replay : Replays P query rs t) where
  -- a goal of the query is made by no step
  not_query : (r : Record) (h : GoalName) (b c : Goal) → In r rs → finite.get (with_makes 0 1 query finite.empty) h ≡ Some b → own r h ≡ Some c → ⊥
  not_query r h b c i q e = let zero_step = of_query query h b q in let number = (own_made r h c e).0 in let positive = (replay.0.0 r i).0 in omega arith

  -- a name is that of one goal
  pub one_goal_of : (h : GoalName) (b c : Goal) → IsGoalOf query rs h b → IsGoalOf query rs h c → b ≡ c
  one_goal_of h b c (inl p) (inl q) = same_value p q
  one_goal_of h b c (inl p) (inr q) = absurd (not_query q.0 h b c q.1 p q.2)
  one_goal_of h b c (inr p) (inl q) = absurd (not_query p.0 h c b p.1 q p.2)
  one_goal_of h b c (inr p) (inr q) =
      let one = numbered_once P query rs t replay p.0 q.0 p.1 q.1 (sym (own_made p.0 h b p.2).0 ∙ (own_made q.0 h c q.2).0) in
      same_value p.2 (subst (λ z. own z h ≡ Some c) one q.2)

  -- the goal that a step took
  pub goal_taken : (r : Record) (h : GoalName) → In r rs → r.goal ≡ Some h → (c : Goal) × (r.consumed ≡ Some c) × IsGoalOf query rs h c
  goal_taken r h i e =
      let p = place_of P query rs t replay r i in
      let there = taken_at P p.state r p.fires h e in (
        there.0,
        there.2,
        elim (goal_by query p.before p.state p.results h there.0 there.1) [
          | inl m ↦ inr (m.0, front_in P query rs t replay r m.0 p m.1, m.2)
          | inr none ↦ inl none.1
        ],
      )

  -- where no step took it, it is there
  pub goal_there : (h : GoalName) (b : Goal) → IsGoalOf query rs h b → IsUntaken rs h → finite.get t.goals h ≡ Some b
  goal_there h b (inl q) free = (results_of P query rs t replay).rest h (query_unmade query rs (λ r i. (replay.0.0 r i).0) h b q) free ∙ q
  goal_there h b (inr p) free = (results_of P query rs t replay).made p.0 h b p.1 p.2 free

module _ (d : Told) (rs : List Record) (t : State) (about : IsAbout d rs t) (h : GoalName) where
  -- a call that was made is told by its fate
  pub fate_told : (f : List ℕ) (ts : List Tree) (word text : List ℕ) → ¬ (d.target ≡ Some h) → IsGoalOf d.core.now.world.opening.query rs h (call f ts) → HasFate d.calls.now.list.items h word
      → IsShown t.store (call f ts) text → TellsMade (only d.core.now.world rs t) h (call f ts) (made_line h word text)
  fate_told f ts word text other of (inl p) shown =
      subst (λ z. TellsMade (only d.core.now.world rs t) h (call f ts) (made_line h z text)) (sym p.1) (elim ((about.calls.all h).1 p.0) [
        | inl q ↦ gave (q.0, q.2, q.3) shown
        | inr q ↦ absurd (other q.0)
      ])
  fate_told f ts word text other of (inr p) shown =
      let w = d.core.now.world in
      subst (λ z. TellsMade (only w rs t) h (call f ts) (made_line h z text)) (sym p.1) (elim (find_consumed rs h) [
        | inl r ↦
            let c = goal_taken w.opening.program w.opening.query rs t about.world.replay r.0 h r.1 r.2 in
            let same = one_goal_of w.opening.program w.opening.query rs t about.world.replay h c.0 (call f ts) c.2 of in
            let k = (about.calls.all h).0 (inl (r.0, c.0, r.1, r.2, c.1, (f, ts, same))) in
            absurd (p.0 k.0 k.1 k.2 k.3)
        | inr free ↦ stands (goal_there w.opening.program w.opening.query rs t about.world.replay h (call f ts) of free) shown
      ])

  -- another goal as it was made
  pub other_told : (b : Goal) → ¬ IsCall b → TellsMade (only d.core.now.world rs t) h b (made_line h (codes " ") (goal_text b))
  other_told (call f ts) other = absurd (other (f, ts, refl))
  other_told (unify l r) other = equation
  other_told (assign u e) other = assignment
  other_told (stream k x) other = a_stream
