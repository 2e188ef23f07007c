-- A history is loaded step by step: each step that is loaded leaves a world that its opening makes.
use Rattle.ghc_core.proofs.Words.{◌≡◌, ℕ, ◌+◌, ◌<◌, ◌≤◌, List, [], ◌∷◌, ◌++◌, length, map, slice_get, refl, sym, ap, subst, subst₂, ◌∙◌, arith, map-append, Some, None, Ok, Err, GoalName, Fault, In, Program, Query, Effect, HasEffect, Goal, value_at, AreDistinct, State, Record, numbers, after, query_state, Runs, Step, Opening, Entry, took, step_of, History, IsHistory, loaded_opening, number_in, Goals, goal_cmp, goal_total, goal_antisymmetric, NotesByGoal, AreLeft, VarName, by_option, not_both, taken, taken_at, is_old, results_of, World, Opens, IsStanding, CanLoad, with_loaded, IsPossibleAs, IsImpossible, Loads, loads, stops, distinct_split, length-map, take, drop, slice_get_within, get_or_from_slice_get, take_all, take_more, length-take-le, splits_at, in_at}
use Rattle.std.specs.FinMap as finite
use Rattle.ghc_core.proofs.Naming.{known_of_goal}
use Rattle.ghc_core.proofs.Reaching.{each_more, reached_good}
use Rattle.ghc_core.proofs.Replayed.{replayed, one_more, pushed}
use Rattle.ghc_core.proofs.Standing.{standing_replay, standing_sound, opening_stands}
use Rattle.ghc_core.proofs.Exactness.{IsNumberNew}

-- The world with a step more that was loaded is the one that its opening makes.
pub loaded_opens : (w : World) → IsStanding w → (r : Record) → Opens w.opening w → CanLoad w r → Opens (with_loaded r w).opening (with_loaded r w)
loaded_opens w s r o c =
    let steps = map-append step_of w.kept (r ∷ []) ∙ ap (λ (ss : List Step). ss ++ step_of r ∷ []) o.steps in
    let state = pushed w (reached_good s) (replayed s) r c.possible c.known (c.positive, omega (arith, o.numbered, c.below, o.next)) c.own in
    let below = each_more (λ q. q.number < w.opening.next) w.kept r o.below (omega (arith, c.below, o.next)) in
    let journal = ap (λ (es : List Entry). es ++ took (step_of r) ∷ []) o.journal ∙ sym (map-append took w.opening.steps (step_of r ∷ [])) in
    assumption (o, one_more w.kept r c.few)

-- A world that differs from this one in what a loaded step changes is the one with the step.
pub loaded_world : {loaded : History} {s : State} {rs : List Record} {es : List Entry} (r : Record) (w : World)
    → loaded ≡ record { steps = w.opening.steps ++ step_of r ∷ []; next = w.opening.next } → s ≡ after w.state r → rs ≡ w.kept ++ r ∷ [] → es ≡ w.journal ++ took (step_of r) ∷ []
    → record { opening = loaded_opening w.opening.program w.opening.query w.opening.names loaded; state = s; kept = rs; shelf = w.shelf; next = w.next; journal = es } ≡ with_loaded r w
loaded_world r w loaded state kept journal = cc

-- It stands.
pub loaded_stands : (w : World) → IsStanding w → (r : Record) → Opens w.opening w → CanLoad w r → IsStanding (with_loaded r w)
loaded_stands w s r o c = opening_stands (with_loaded r w).opening (with_loaded r w) (standing_sound w s) (loaded_opens w s r o c)

-- No goal that is there has the number of the step.
pub loaded_is_new : (w : World) → IsStanding w → (r : Record) → CanLoad w r → IsNumberNew w r
loaded_is_new w s r c g b there same =
    let old = is_old w.opening.query w.kept w.state (results_of w.opening.program w.opening.query w.kept w.state (standing_replay w s)) g b there in
    grind (arith, old, number_in)

-- The record of a step that consumes the goal named g, the goal b, with an effect that its act has on it.
pub possible_as : (P : Program) (t : State) (s : Step) (g : GoalName) (b : Goal) (e : Effect) (r : Record) → s.goal ≡ Some g → finite.get t.goals g ≡ Some b
    → HasEffect P b s.act s.number (value_at t.store) e → r ≡ record { number = s.number; goal = Some g; consumed = Some b; act = s.act; effect = e } → IsPossibleAs P t s r
possible_as P t s g b e r named there has is =
    subst (IsPossibleAs P t s) (sym is) ((λ i. record { number = s.number; goal = sym named i; act = s.act }), ((b, refl, there), has))

-- Where the act has no effect on the goal that is there, the step is not possible.
pub impossible_there : (P : Program) (t : State) (s : Step) (g : GoalName) (b : Goal) → s.goal ≡ Some g → finite.get t.goals g ≡ Some b
    → ((e : Effect) → ¬ HasEffect P b s.act s.number (value_at t.store) e) → IsImpossible P t s
impossible_there P t s g b named there never r p =
    let firing = taken P t r p.1 g (ap (λ (q : Step). q.goal) p.0 ∙ named) in
    let same : firing.goal ≡ b = cc in
    never r.effect (rw (← p.0, ← same) firing.effect)

-- A step of a goal that is not there is not possible.
pub impossible_gone : (P : Program) (t : State) (s : Step) (g : GoalName) → s.goal ≡ Some g → finite.get t.goals g ≡ None → IsImpossible P t s
impossible_gone P t s g named gone r p =
    not_both (taken_at P t r p.1 g (ap (λ (q : Step). q.goal) p.0 ∙ named)).1 gone

pub step_numbers : (rs : List Record) → numbers rs ≡ map (λ (s : Step). s.number) (map step_of rs)
step_numbers [] = refl
step_numbers (r ∷ rs) = ap (λ ns. r.number ∷ ns) (step_numbers rs)

-- The first i steps of the history are loaded, which leaves the world w.
pub record HasLoaded (P : Program) (query : Query) (names : List (List ℕ)) (h : History) (i : ℕ) (w : World) : Type 0 where
  pub opening : w.opening ≡ loaded_opening P query names (record { steps = take i h.steps; next = h.next })
  pub opens : Opens w.opening w

-- Before any step nothing is loaded.
pub nothing_loaded : (P : Program) (query : Query) (names : List (List ℕ)) (h : History) (w : World) → Opens (loaded_opening P query names (record { steps = []; next = h.next })) w
    → HasLoaded P query names h 0 w
nothing_loaded P query names h w o = record { opening = o.opening; opens = subst (λ p. Opens p w) (sym o.opening) o }

module _ (P : Program) (query : Query) (names : List (List ℕ)) (h : History) (i : ℕ) (w : World) (l : HasLoaded P query names h i w) where
  -- the steps that are kept are those that were loaded
  kept_steps : map step_of w.kept ≡ take i h.steps
  kept_steps = l.opens.steps ∙ ap (λ (o : Opening). o.steps) l.opening

  module _ (s : Step) (at : slice_get h.steps i ≡ Some s) where
    whole : h.steps ≡ take i h.steps ++ s ∷ drop (i + 1) h.steps
    whole = splits_at h.steps i s (slice_get_within h.steps i s at) (sym (get_or_from_slice_get h.steps i s s at))

    count : length (take i h.steps) ≡ i
    count = length-take-le i h.steps (let less = slice_get_within h.steps i s at in omega arith)

    -- Of a history that is of the form, the next step can be loaded where it is possible.
    pub own_step : (r : Record) → IsHistory h → IsPossibleAs w.opening.program w.state s r → CanLoad w r
    own_step r form p =
        let number = λ (q : Step). q.number in
        let numbered = form.numbered s (in_at h.steps i s at) in
        let named = form.of_goals s (in_at h.steps i s at) in
        let same : r.number ≡ s.number = ap number p.0 in
        let distinct : AreDistinct (map number (take i h.steps) ++ s.number ∷ map number (drop (i + 1) h.steps)) =
        subst AreDistinct (ap (map number) whole ∙ map-append number (take i h.steps) (s ∷ drop (i + 1) h.steps)) form.distinct in
        record {
          possible = p.1;
          known = known_of_goal w.opening.program w.state w.opening.query w.kept r p.1 named.0 (ap (λ (q : Step). q.goal) p.0 ∙ named.1);
          positive = omega (arith, numbered, same);
          below = omega (arith, numbered, same, l.opens.next, ap (λ (o : Opening). o.next) l.opening);
          own = λ j. distinct_split (map number (take i h.steps)) s.number (map number (drop (i + 1) h.steps)) distinct
              (subst₂ In same (step_numbers w.kept ∙ ap (map number) kept_steps) j);
          few = omega (arith, form.few, slice_get_within h.steps i s at, count, length-map w.kept step_of, ap length kept_steps);
        }

    -- It is of a goal.
    pub own_goal : IsHistory h → (g : GoalName) × (s.goal ≡ Some g)
    own_goal form = form.of_goals s (in_at h.steps i s at)

    -- The first steps, with the next one, are those of the opening, with this one.
    pub loaded_next : (first : History) → first ≡ record { steps = take (i + 1) h.steps; next = h.next } → first ≡ record { steps = w.opening.steps ++ s ∷ []; next = w.opening.next }
    loaded_next first is =
        let more = take_more h.steps i s (slice_get_within h.steps i s at) in
        let steps : take (i + 1) h.steps ≡ take i h.steps ++ s ∷ [] = more ∙ ap (λ q. take i h.steps ++ q ∷ []) (get_or_from_slice_get h.steps i s s at) in
        is ∙ ap (λ ss. record { steps = ss; next = h.next }) steps ∙ ap (λ (o : Opening). record { steps = o.steps ++ s ∷ []; next = o.next }) (sym l.opening)

    -- The next step was loaded.
    pub one_more_loaded : (v : World) (r : Record) → IsPossibleAs w.opening.program w.state s r → v ≡ with_loaded r w → Opens v.opening v → HasLoaded P query names h (i + 1) v
    one_more_loaded v r p is opens =
        let more = take_more h.steps i s (slice_get_within h.steps i s at) in
        let steps : take i h.steps ++ step_of r ∷ [] ≡ take (i + 1) h.steps =
        ap (λ q. take i h.steps ++ q ∷ []) (p.0 ∙ sym (get_or_from_slice_get h.steps i s s at)) ∙ sym more in
        record {
          opening = ap (λ (u : World). u.opening) is ∙ ap (λ (o : Opening). record o { steps = o.steps ++ step_of r ∷ [] }) l.opening
              ∙ ap (λ ss. loaded_opening P query names (record { steps = ss; next = h.next })) steps;
          opens = opens;
        }

    -- The next step is not possible.
    pub stopped_at : (line : ℕ) → IsImpossible w.opening.program w.state s → line ≡ i + 3 → Loads ⊥ P query names h (Err (Fault.History line))
    stopped_at line never is = stops (record {
      before = take i h.steps;
      stopped = s;
      behind = drop (i + 1) h.steps;
      whole = whole;
      run = w.kept;
      state = w.state;
      run_steps = kept_steps;
      runs = subst (λ (o : Opening). Runs o.program (query_state o.query) w.kept w.state) l.opening l.opens.state.1;
      impossible = subst (λ (o : Opening). IsImpossible o.program w.state s) l.opening never;
      line_is = omega (arith, is, count);
    })

  -- All steps are loaded.
  pub all_loaded : length h.steps ≤ i → Loads ⊥ P query names h (Ok w)
  all_loaded most =
      let all = ap (λ ss. loaded_opening P query names (record { steps = ss; next = h.next })) (take_all i h.steps most) in
      loads w (subst (λ o. Opens o w) (l.opening ∙ all) l.opens)

-- Of no notes none is left.
pub none_noted : (goals : Goals) (touched : VarName → Type 0) (old new : NotesByGoal) → AreLeft goals touched old new → old ≡ finite.empty → new ≡ finite.empty
none_noted goals touched old new left none = finite.same_map goal_total goal_antisymmetric new finite.empty (λ g. by_option (finite.get new g) (λ e. e ∙ sym (finite.get-empty goal_cmp g))
    (λ note e. absurd (not_both (((left g note).0 e).0) (ap (λ m. finite.get m g) none ∙ finite.get-empty goal_cmp g))))
