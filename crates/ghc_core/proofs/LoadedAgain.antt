-- A history has one answer, and what is saved of a reachable world is loaded again: two runs from one state by the same steps are one run.
use Rattle.ghc_core.proofs.Words.{◌≡◌, ℕ, ◌+◌, List, [], ◌∷◌, ◌++◌, map, length, refl, sym, ap, ◌∙◌, subst, inl, inr, arith, append_assoc, append-nil, map-append, Result, Ok, Err, Fault, In, IsAcyclic, value_at, in_left, in_right, compare_splits, Program, Query, IsProgram, IsQuery, AreDistinct, State, Record, numbers, after, query_state, Runs, HaveStepNumbers, NameWhatIsKnown, Replays, Step, Opening, step_of, History, IsHistory, loaded_opening, numbers_append, replay_well, fires_once, distinct_left, World, Opens, Loads, loads, stops, StopsAt, IsImpossible, history_of, reloaded, in_map}
use Rattle.ghc_core.specs.Load.{no_memory}
use Rattle.ghc_core.specs.LoadLaws as laws
use Rattle.ghc_core.proofs.Reaching.{Good, reachable_good}
use Rattle.ghc_core.proofs.Moving.{reachable_reached}
use Rattle.ghc_core.proofs.Naming.{unasked_names_nothing, nothing_named}
use Rattle.ghc_core.proofs.Replayed.{replayed, runs_push}
use Rattle.ghc_core.proofs.Loading.{step_numbers}

module _ (P : Program) (query : Query) (accepted : IsProgram P) (asked : IsQuery P query) where
  module _ (whole : List Record) (numbered : HaveStepNumbers whole) (named : NameWhatIsKnown query whole) where
    -- where the first of the steps were run, the store is acyclic
    front_acyclic : (done rest : List Record) (s : State) → whole ≡ done ++ rest → Runs P (query_state query) done s → IsAcyclic (value_at s.store)
    front_acyclic done rest s e run =
        let own : AreDistinct (numbers done ++ numbers rest) = subst AreDistinct (ap numbers e ∙ numbers_append done rest) numbered.1 in
        let replay : Replays P query done s = (((λ r i. numbered.0 r (subst (In r) (sym e) (in_left done rest r i))), distinct_left (numbers done) (numbers rest) own), run, λ front behind r split. named front (behind ++ rest) r (e ∙ ap (λ l. l ++ rest) split ∙ append_assoc front (r ∷ behind) rest)) in
        (replay_well P query done s accepted asked replay).acyclic

    -- after the steps done, a run of the first of the steps that follow has their records, and the others run on from the state that it leaves
    behind_run : (done rest run : List Record) (s t u : State) (later : List Step)
        → whole ≡ done ++ rest → Runs P (query_state query) done s → Runs P s rest t → Runs P s run u
        → map step_of rest ≡ map step_of run ++ later → (left : List Record) × (rest ≡ run ++ left) × Runs P u left t × (map step_of left ≡ later)
    behind_run done rest [] s t u later e d a b same = (rest, refl, rw b a, same)
    behind_run done (r ∷ rest) (q ∷ run) s t u later e d a b same =
        let first : step_of r ≡ step_of q = cc in
        let behind : map step_of rest ≡ map step_of run ++ later = cc in
        let one : q ≡ r = sym (fires_once P s r q (front_acyclic done (r ∷ rest) s e d) first a.0 b.0) in
        let pushed = runs_push P done r (query_state query) s d a.0 in
        let next = behind_run (done ++ r ∷ []) rest run (after s r) t u later (rw append_assoc e) pushed a.1 (rw one at b.1) behind in
        (next.0, (cc (sym one, next.1)), next.2, next.3)
    behind_run done [] (q ∷ run) s t u later e d a b same = cc

  -- where no step is left, that state is the last
  nothing_left : (run left : List Record) (t u : State) → Runs P u left t → map step_of left ≡ [] → (run ≡ run ++ left) × (u ≡ t)
  nothing_left run [] t u on none = (sym (append-nil run), sym on)
  nothing_left run (r ∷ left) t u on none = cc

  -- and where one is, it is possible
  next_possible : (left : List Record) (t u : State) (s : Step) (later : List Step) → Runs P u left t → map step_of left ≡ s ∷ later → ¬ IsImpossible P u s
  next_possible (r ∷ left) t u s later on steps never = let first : step_of r ≡ s = cc in never r (first, on.0)
  next_possible [] t u s later on steps never = cc

  module _ (names : List (List ℕ)) (h : History) where
    -- a world of the opening is the replay of its steps
    ran : (w : World) → Opens (loaded_opening P query names h) w → Replays P query w.kept w.state
    ran w o = subst (λ (p : Opening). Replays p.program p.query w.kept w.state) o.opening o.state

    -- an opening makes one world
    pub one_world : (w v : World) → Opens (loaded_opening P query names h) w → Opens (loaded_opening P query names h) v → v ≡ w
    one_world w v o p =
        let steps = o.steps ∙ sym p.steps ∙ sym (append-nil (map step_of v.kept)) in
        let run = behind_run w.kept (ran w o).0 (ran w o).2 [] w.kept v.kept (query_state query) w.state v.state [] refl refl (ran w o).1 (ran v p).1 steps in
        let last = nothing_left v.kept run.0 w.state v.state run.2 run.3 in
        λ i. record {
          opening = (p.opening ∙ sym o.opening) i;
          state = last.1 i;
          kept = (last.0 ∙ sym run.1) i;
          shelf = (p.shelf ∙ sym o.shelf) i;
          next = (p.next ∙ sym o.next) i;
          journal = (p.journal ∙ sym o.journal) i;
        }

    -- where it makes a world, no step is impossible
    pub no_stop : (w : World) (line : ℕ) → Opens (loaded_opening P query names h) w → ¬ StopsAt P query h line
    no_stop w line o p =
        let steps = o.steps ∙ p.whole ∙ ap (λ ss. ss ++ p.stopped ∷ p.behind) (sym p.run_steps) in
        let replay = ran w o in
        let run = behind_run w.kept replay.0 replay.2 [] w.kept p.run _ w.state p.state (p.stopped ∷ p.behind) refl refl replay.1 p.runs steps in
        next_possible run.0 w.state p.state p.stopped p.behind run.2 run.3 p.impossible

    module _ (form : IsHistory h) where
      module _ (line : ℕ) (p : StopsAt P query h line) where
        -- a step that is run is one of the history
        run_in : (r : Record) → In r p.run → In (step_of r) h.steps
        run_in r i = rw p.whole (in_left p.before (p.stopped ∷ p.behind) (step_of r) (rw p.run_steps at (in_map step_of p.run r i)))

        -- so the steps that are run name nothing
        run_named : NameWhatIsKnown query p.run
        run_named front rest r split =
            let there : In r p.run = rw split (in_right front (r ∷ rest) r (inl refl)) in
            nothing_named query front r (unasked_names_nothing r.act (λ gs. form.unasked (step_of r) gs (run_in r there)))

        -- and have numbers that steps can have
        run_numbered : HaveStepNumbers p.run
        run_numbered =
            let number = λ (s : Step). s.number in
            let own = subst AreDistinct (ap (map number) p.whole ∙ map-append number p.before (p.stopped ∷ p.behind)) form.distinct in (
              λ r i. let numbered = form.numbered (step_of r) (run_in r i) in (numbered.0, omega (arith, numbered, form.next_number)),
              rw (step_numbers, p.run_steps) (distinct_left (map number p.before) (map number (p.stopped ∷ p.behind)) own),
            )

      -- a step that is not possible is in no longer run
      not_behind : (line other : ℕ) (p : StopsAt P query h line) (q : StopsAt P query h other) (more : List Step) → ¬ (q.before ≡ p.before ++ p.stopped ∷ more)
      not_behind line other p q more e =
          let steps = q.run_steps ∙ e ∙ ap (λ ss. ss ++ p.stopped ∷ more) (sym p.run_steps) in
          let run = behind_run q.run (run_numbered other q) (run_named other q) [] q.run p.run _ _ _ (p.stopped ∷ more) refl refl q.runs p.runs steps in
          next_possible run.0 q.state p.state p.stopped more run.2 run.3 p.impossible

      -- one step is the first that is not possible
      pub one_stop : (line other : ℕ) → StopsAt P query h line → StopsAt P query h other → line ≡ other
      one_stop line other p q = elim (compare_splits p.before q.before p.stopped q.stopped p.behind q.behind (sym p.whole ∙ q.whole)) [
        | inl same ↦ p.line_is ∙ ap (λ (ss : List Step). length ss + 3) same.0 ∙ sym q.line_is
        | inr (inl m) ↦ absurd (not_behind line other p q m.0 m.1)
        | inr (inr m) ↦ absurd (not_behind other line q p m.0 m.1)
      ]

      pub one_refusal : (d e : Fault) → Loads ⊥ P query names h (Err d) → Loads ⊥ P query names h (Err e) → d ≡ e
      one_refusal _ _ (stops {line = line} p) (stops {line = other} q) = ap Fault.History (one_stop line other p q)
      one_refusal _ _ (stops p) (no_memory n) = absurd n
      one_refusal _ _ (no_memory n) q = absurd n

    pub never_both : (w : World) (e : Fault) → Loads ⊥ P query names h (Ok w) → ¬ Loads ⊥ P query names h (Err e)
    never_both w _ (loads v o) (stops {line = line} p) = no_stop w line o p
    never_both w _ (loads v o) (no_memory n) = n

    pub only_world : (w v : World) → Loads ⊥ P query names h (Ok w) → Loads ⊥ P query names h (Ok v) → w ≡ v
    only_world w v (loads _ o) (loads _ p) = one_world v w p o

pub loaded_again : laws.SavedIsLoadedAgain
loaded_again w hands r = (loads (reloaded w) opens, only)
  where
    good : Good w
    good = reachable_good r

    opens : Opens (reloaded w).opening (reloaded w)
    opens = assumption (good, replayed (reachable_reached r))

    only : (result : Result World Fault) → Loads ⊥ w.opening.program w.opening.query w.opening.names (history_of w) result → result ≡ Ok (reloaded w)
    only (Ok v) l = ap Ok (only_world w.opening.program w.opening.query good.accepted good.asked w.opening.names _ v (reloaded w) l (loads _ opens))
    only (Err e) l = absurd (never_both w.opening.program w.opening.query good.accepted good.asked w.opening.names _ (reloaded w) e (loads _ opens) l)
