-- The goals of a world have names of 32 bits, where the bodies of its program and its query are no longer than they may be.
use Rattle.ghcdb.proofs.CitedWords.{◌≡◌, ◌≤◌, ℕ, length, ap, inl, inr, arith, Option, None, Some, In, Program, Query, World}
use Rattle.std.specs.FinMap as finite
use Rattle.std.specs.FinSet as set
use Rattle.std.proofs.lemmas.List.{length-map}
use Rattle.ghc_term.specs.declared.var_name.VarName.{VarName}
use Rattle.ghc_term.specs.declared.goal_name.GoalName.{GoalName}
use Rattle.ghc_term.specs.Tree.{Tree}
use Rattle.ghc_term.specs.Goal.{Goal, call, unify, assign, stream}
use Rattle.ghc_term.specs.Store.{value_at}
use Rattle.ghc_flat.specs.Clause.{Clause}
use Rattle.ghc_fire.specs.declared.act.Act.{Act}
use Rattle.ghc_fire.specs.declared.act.Act.TheVariants.{ByClause as by_clause, Unified as unified, Assigned as assigned, Given as given, Closed as closed}
use Rattle.ghc_fire.specs.Effect.{Effect, HasEffect}
use Rattle.ghc_fire.specs.Instance.{becomes, replace_in_goal}
use Rattle.ghc_reader.specs.Lexed.{greatest_number}
use Rattle.ghc_records.specs.Record.{State, Record, Fires}
use Rattle.ghc_records.specs.Replay.{MakesGoal}
use Rattle.ghc_depend.proofs.Finding.{own_made}
use Rattle.ghc_depend.proofs.Placing.{place_of, results_of}
use Rattle.ghc_depend.proofs.Results.{firing, goal_by}
use Rattle.ghc_core.specs.Reached.{Reaches}
use Rattle.ghc_core.proofs.Reaching.{reached_good}
use Rattle.ghc_core.proofs.Replayed.{replayed}
use Rattle.ghc_term.proofs.ListsLemmas.{in_at}

-- No body of the program has more goals than a clause may have.
abbrev pub HasShortBodies : Program → Type 0
HasShortBodies P = (c : Clause) → In c P → length c.body ≤ 1000

-- The name has numbers of 32 bits.
abbrev pub IsSmall : GoalName → Type 0
IsSmall g = (g.step ≤ greatest_number) × (g.place ≤ greatest_number)

module _ (P : Program) (short : HasShortBodies P) where
  -- an act makes few goals of a goal
  makes_few : (b : Goal) (a : Act) (n : ℕ) (S : VarName → Option Tree) (e : Effect) → HasEffect P b a n S e → length e.makes ≤ 1000
  makes_few (call f ts) (by_clause k) n S e h =
      let c = h.0 in
      let few = short c (in_at P h.2.0 c h.2.2) in
      omega (arith, few, ap length h.6, length-map c.body (replace_in_goal (becomes c h.1 n)))
  makes_few (unify l r) unified n S e h = omega (arith, ap length h.1)
  makes_few (assign t b) assigned n S e h = omega (arith, ap length h.5)
  makes_few (stream k s) (given u) n S e h = omega (arith, ap length h.4)
  makes_few (stream k s) closed n S e h = omega (arith, ap length h.3)
  makes_few b a n S e h = absurd h

  step_makes_few : (s : State) (r : Record) → Fires P s r → length r.effect.makes ≤ 1000
  step_makes_few s r fires = elim (firing P s r fires) [
    | inl t ↦ makes_few t.goal r.act r.number (value_at s.store) r.effect t.effect
    | inr a ↦ omega (arith, ap length a.asks.makes, a.asks.askable.few)
  ]

-- the query as if a step of the number 0 had made it
abbrev query_step : Query → Record
query_step query = record { number = 0; goal = None; consumed = None; act = closed; effect = record { reads = set.empty; binds = finite.empty; makes = query; fresh = 0 } }

-- The goals of the world have small names.
pub goals_small : (w : World) → Reaches w → HasShortBodies w.opening.program → length w.opening.query ≤ 1000 → (g : GoalName) (b : Goal) → finite.get w.state.goals g ≡ Some b → IsSmall g
goals_small w at short few g b there =
    let P = w.opening.program in
    let query = w.opening.query in
    let played = replayed at in
    let good = reached_good at in
    elim (goal_by query w.kept w.state (results_of P query w.kept w.state played.replay) g b there) [
      | inl m ↦
          let makes = own_made m.0 g b m.2 in
          let place = place_of P query w.kept w.state played.replay m.0 m.1 in
          let many = step_makes_few P short place.state m.0 place.fires in
          let below = good.below m.0 m.1 in
          let limit = played.within in
          (omega (arith, makes.0, below, limit), omega (arith, makes.2, many))
      | inr q ↦ let makes : MakesGoal (query_step query) g = own_made (query_step query) g b q.1 in (omega (arith, makes.0), omega (arith, makes.2, few))
    ]
