-- What is known of a world that a core can be in, and which worlds are so from the start.
use Rattle.ghc_core.proofs.Words.{◌≡◌, ◌≢◌, ◌<◌, ◌≤◌, ℕ, List, [], refl, inl, inr, arith, Some, VarName, GoalName, Goal, value_at, Program, Query, IsProgram, IsQuery, no_step, HasNoVariableOf, In, State, Record, Shelf, query_state, IsVariableOf, number_limit, Opening, Entry, History, loaded_opening, IsWellMade, World, IsReplay, Opens, AreNamesOf, IsSound, from_opening, IsOrderly, IsStanding}
use Rattle.std.specs.FinMap as finite
use Rattle.ghc_records.proofs.Replaying as replaying
use Rattle.ghc_core.proofs.Reaching.{reached_good}
use Rattle.ghc_core.proofs.Replayed.{replayed}
use Rattle.ghc_core.proofs.Naming.{none_named}

-- The state of a standing world is the replay of its kept steps.
pub standing_replay : (w : World) → IsStanding w → IsReplay w w.kept w.state
standing_replay w s = (replayed s).replay

-- In a standing world the store is acyclic, and each variable is the query's or made by a kept step.
pub standing_well_made : (w : World) → IsStanding w → IsWellMade w.opening.query w.kept w.state
standing_well_made w s = let g = reached_good s in record { acyclic = g.acyclic; goals = g.has.goals; bound = g.has.keys; values = λ x y u p o. g.has.values x u p y o }

-- A standing world is orderly: no number is kept twice, and each stream has one goal at most.
pub standing_orderly : (w : World) → IsStanding w → IsOrderly w
standing_orderly w s = let g = reached_good s in record { kept_once = g.kept_once; acyclic = g.acyclic; streams_once = λ k n m s u p q. g.one k n m s u p q }

-- The program and the query of a standing world are accepted, and the names are those of the query's variables.
pub standing_sound : (w : World) → IsStanding w → IsSound w.opening
standing_sound w s = let good = reached_good s in (good.accepted, good.asked, good.named)

-- No variable of a standing world is one of `no_step`.
pub standing_apart : (w : World) → IsStanding w → (x : VarName) → IsVariableOf w.opening.query w.kept x → x.step ≢ no_step
standing_apart w s x (inl i) e = omega (arith, replaying.of_query w.opening.program w.opening.query x (standing_sound w s).1 i, e)
standing_apart w s x (inr m) e = omega (arith, ((standing_replay w s).0.0 m.0 m.1).1, m.2.0, e)

-- In a standing world no variable of `no_step` stands in a goal that is there, or in a value of the store.
pub standing_numbered : (w : World) → IsStanding w → (g : GoalName) (b : Goal) → finite.get w.state.goals g ≡ Some b → HasNoVariableOf no_step b (value_at w.state.store)
standing_numbered w s g b e =
    let well = standing_well_made w s in
    record {
      goal = λ x i. standing_apart w s x (well.goals g b x e i);
      values = λ y t p x o. standing_apart w s x (well.values y x t p o);
    }

-- A world that an opening makes stands, where program and query are accepted.
pub opening_stands : (o : Opening) (w : World) → IsSound o → Opens o w → IsStanding w
opening_stands o w sound opens = from_opening sound opens

-- the opening of a query on which no step was loaded, and after which a step gets the number n
abbrev pub empty_opening : Program → Query → List (List ℕ) → ℕ → Opening
empty_opening P query names n = loaded_opening P query names (record { steps = []; next = n })

-- the world of a query where no step was loaded
abbrev pub empty_world : Program → Query → List (List ℕ) → ℕ → World
empty_world P query names n = record { opening = empty_opening P query names n; state = query_state query; kept = []; shelf = finite.empty; next = n; journal = [] }

-- A world of these parts is the world of a query where no step was loaded.
pub same_empty : (P : Program) (query : Query) (names : List (List ℕ)) (n : ℕ) {loaded : History} {s : State} {rs : List Record} {shelf : Shelf} {es : List Entry}
    → loaded ≡ record { steps = []; next = n } → s ≡ query_state query → rs ≡ [] → shelf ≡ finite.empty → es ≡ []
    → empty_world P query names n ≡ record { opening = loaded_opening P query names loaded; state = s; kept = rs; shelf = shelf; next = n; journal = es }
same_empty P query names n loaded state kept shelf journal = cc

-- The opening of a program, a query, names and a number makes their world before any step.
pub empty_opens : (P : Program) (query : Query) (names : List (List ℕ)) (n : ℕ) → 1 ≤ n → n ≤ number_limit → Opens (empty_opening P query names n) (empty_world P query names n)
empty_opens P query names n first small = record {
  opening = refl;
  steps = refl;
  state = (((λ r i. absurd i), tt), refl, none_named query);
  below = λ r i. absurd i;
  numbered = (first, small);
  few = omega arith;
  shelf = refl;
  next = refl;
  journal = refl;
}

-- The world before any step of an accepted program and query, and of names of the query's variables, stands.
pub empty_stands : (P : Program) (query : Query) (names : List (List ℕ)) (n : ℕ) → 1 ≤ n → n ≤ number_limit → IsProgram P → IsQuery P query → AreNamesOf query names
    → IsStanding (empty_world P query names n)
empty_stands P query names n first small accepted asked named =
    opening_stands (empty_opening P query names n) (empty_world P query names n) (accepted, asked, named) (empty_opens P query names n first small)

-- Each kept step of a standing world has a number below the next one.
pub standing_below : (w : World) → IsStanding w → (r : Record) → In r w.kept → r.number < w.next
standing_below w s r i = (reached_good s).below r i
