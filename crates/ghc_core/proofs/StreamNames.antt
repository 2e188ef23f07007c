-- The names of the streams' goals stay in step with the goals.
use Rattle.ghc_core.proofs.Words.{[], ◌≡◌, ◌≢◌, ℕ, zero, suc, ◌+◌, ◌⊎◌, true, false, List, ◌∷◌, filter, refl, sym, ap, ◌∙◌, subst, inl, inr, arith, Some, None, slice_get, slice_set, take, ◌++◌, Option, VarName, GoalName, Goal, stream, In, in_at, value_at, Program, Query, is_stream, IsProgram, IsQuery, goal_cmp, Goals, same_parts, State, Record, without_goal, after, Fires, query_state, Runs, IsTakenBack, coded_ℕ, same_decided, not_stream, made_or_old, made_at, stream_made, place_at, by_option, not_both, same_value, named_or_not, without_it, without_other, firing, World, IsStanding, name_of, with_name, opened, stream_of, first_made, renamed, told, told_back, TellStreams, set_other, set_same, slice_get_within}
use Rattle.std.specs.FinMap as finite
use Rattle.std.specs.Coded.{coded_option}
use Rattle.ghc_core.proofs.Reaching.{reached_good}
use Rattle.ghc_core.proofs.Standing.{standing_replay, standing_orderly}
use Rattle.ghc_core.proofs.Exactness.{come_back, consumed_again}

-- a list with another value in a place has something where it had
set_stays : {X : Type 0} (xs : List X) (i j : ℕ) (x : X) → slice_get xs i ≢ None → slice_get (slice_set xs j x) i ≢ None
set_stays (z ∷ xs) zero zero x n = λ e. cc
set_stays (z ∷ xs) (suc i) (suc j) x n = set_stays xs i j x n
set_stays xs i j x n = n

-- the same of names in the places of streams
name_here : (k : ℕ) (g h : GoalName) (names : List GoalName) → name_of k names ≡ Some h → name_of k (with_name k g names) ≡ Some g
name_here zero g h names e = cc
name_here (suc i) g h names e = set_same names i g (slice_get_within names i h e)

name_apart : (k j : ℕ) (g : GoalName) (names : List GoalName) → k ≢ j → name_of k (with_name j g names) ≡ name_of k names
name_apart (suc i) (suc j) g names n = set_other names j i g (λ e. n (ap suc e))
name_apart k j g names n = refl

name_stays : (k j : ℕ) (g : GoalName) (names : List GoalName) → name_of k names ≢ None → name_of k (with_name j g names) ≢ None
name_stays (suc i) (suc j) g names n = set_stays names i j g n
name_stays k j g names n = n

renamed_apart : (o : Option ℕ) (q : Option GoalName) (k : ℕ) (names : List GoalName) → o ≢ Some k → name_of k (renamed o q names) ≡ name_of k names
renamed_apart (Some j) (Some g) k names n = name_apart k j g names (λ e. n (ap Some (sym e)))
renamed_apart o q k names n = refl

renamed_stays : (o : Option ℕ) (q : Option GoalName) (k : ℕ) (names : List GoalName) → name_of k names ≢ None → name_of k (renamed o q names) ≢ None
renamed_stays (Some j) (Some g) k names n = name_stays k j g names n
renamed_stays o q k names n = n

renamed_here : (o : Option ℕ) (q : Option GoalName) (k : ℕ) (g h : GoalName) (names : List GoalName) → o ≡ Some k → q ≡ Some g → name_of k names ≡ Some h → name_of k (renamed o q names) ≡ Some g
renamed_here o q k g h names same named e = rw (same, named) (name_here k g h names e)

-- a goal of the stream is its stream goal
of_stream : (c : Option Goal) (k : ℕ) → stream_of c ≡ Some k → (s : VarName) × (c ≡ Some (stream k s))
of_stream (Some (stream j s)) k e = (s, (let same : j ≡ k = cc in ap (λ n. Some (stream n s)) same))
of_stream c k e = cc

first_is : (g : GoalName) (n : ℕ) (gs : List Goal) (j : ℕ) (b : Goal) → slice_get gs j ≡ Some b → j ≡ 0 → g.step ≡ n → g.place ≡ 1 + j → first_made n gs ≡ Some g
first_is g n [] j b e z s p = cc
first_is g n (c ∷ gs) j b e z s p = ap Some (sym (same_parts g (record { step = n; place = 1 }) s (omega (arith, p, z))))

-- each stream goal is one of a stream of the query
abbrev AreAsked : Query → Goals → Type 0
AreAsked query goals = (k : ℕ) (g : GoalName) (s : VarName) → finite.get goals g ≡ Some (stream k s) → (t : VarName) × In (stream k t) query

-- a step is taken
module _ (P : Program) (accepted : IsProgram P) (s : State) (r : Record) (fires : Fires P s r) where
  -- A goal that the step consumed was there.
  consumed_there : (b : Goal) → r.consumed ≡ Some b → (h : GoalName) × (r.goal ≡ Some h) × (finite.get s.goals h ≡ Some b)
  consumed_there b e = grind (arith, firing P s r fires)

  -- A stream goal that is there then was there, and is not the one consumed; or the step made it first, and consumed a goal of its stream.
  from : (k : ℕ) (g : GoalName) (x : VarName) → finite.get (after s r).goals g ≡ Some (stream k x)
      → ((finite.get s.goals g ≡ Some (stream k x)) × (r.goal ≢ Some g)) ⊎ ((first_made r.number r.effect.makes ≡ Some g) × (t : VarName) × (r.consumed ≡ Some (stream k t)))
  from k g x e = elim (made_at r.number 1 r.effect.makes (without_goal r.goal s.goals) g (stream k x) e) [
    | inl m ↦ elim (firing P s r fires) [
      | inl f ↦
          let t = stream_made P f.goal r.act r.number (value_at s.store) r.effect accepted f.effect m.0 k x m.1 in
          inr (first_is g r.number r.effect.makes m.0 (stream k x) m.1 t.0 m.2 m.3, t.1.0, f.consumed ∙ ap Some t.1.1)
      | inr a ↦
          let plain : filter is_stream r.effect.makes ≡ [] = ap (λ l. filter is_stream l) a.asks.makes ∙ a.asks.askable.plain in
          let clash : true ≡ false = not_stream r.effect.makes (stream k x) plain (in_at r.effect.makes m.0 (stream k x) m.1) in
          cc
    ]
    | inr old ↦ grind (arith, old, named_or_not r.goal g, without_it r.goal s.goals g, without_other r.goal s.goals g)
  ]

  pub over : (query : Query) (names : List GoalName) → TellStreams query s.goals names → TellStreams query (after s r).goals (told r names)
  over query names tell = record {
    last = λ k g x e. elim (from k g x e) [
      | inl old ↦ elim (same_decided (coded_option coded_ℕ) (stream_of r.consumed) (Some k)) [
        | inl same ↦
            let t = of_stream r.consumed k same in
            let c = consumed_there (stream k t.0) t.1 in
            absurd (old.1 (c.1 ∙ ap Some (same_value (tell.last k c.0 t.0 c.2) (tell.last k g x old.0))))
        | inr other ↦ renamed_apart (stream_of r.consumed) (first_made r.number r.effect.makes) k names other ∙ tell.last k g x old.0
      ]
      | inr made ↦
          let c = consumed_there (stream k made.1) made.2 in
          renamed_here (stream_of r.consumed) (first_made r.number r.effect.makes) k g c.0 names (ap stream_of made.2) made.0 (tell.last k c.0 made.1 c.2)
    ];
    placed = λ k x i. renamed_stays (stream_of r.consumed) (first_made r.number r.effect.makes) k names (tell.placed k x i);
  }

  after_asked : (query : Query) → AreAsked query s.goals → AreAsked query (after s r).goals
  after_asked query asked k g x e = elim (from k g x e) [
    | inl old ↦ asked k g x old.0
    | inr made ↦ let c = consumed_there (stream k made.1) made.2 in asked k c.0 made.1 c.2
  ]

run_asked : (P : Program) → IsProgram P → (query : Query) (rs : List Record) (s t : State) → Runs P s rs t → AreAsked query s.goals → AreAsked query t.goals
run_asked P accepted query [] s t run asked = subst (λ (z : State). AreAsked query z.goals) (sym run) asked
run_asked P accepted query (r ∷ rs) s t run asked = run_asked P accepted query rs (after s r) t run.1 (after_asked P accepted s r run.0 query asked)

query_asked : (query : Query) → AreAsked query (query_state query).goals
query_asked query k g x e = elim (made_or_old 0 1 query finite.empty g (stream k x) e) [
  | inl m ↦ (x, m.1)
  | inr none ↦ absurd (not_both none (finite.get-empty goal_cmp g))
]

standing_asked : (w : World) → IsStanding w → AreAsked w.opening.query w.state.goals
standing_asked w stands = run_asked w.opening.program (reached_good stands).accepted w.opening.query w.kept (query_state w.opening.query) w.state (standing_replay w stands).1 (query_asked w.opening.query)

-- In a standing world a step is taken, and the names follow it.
pub stands_over : (w : World) → IsStanding w → (r : Record) → Fires w.opening.program w.state r → (names new : List GoalName) → new ≡ told r names
    → TellStreams w.opening.query w.state.goals names → TellStreams w.opening.query (after w.state r).goals new
stands_over w stands r fires names new same tell =
    subst (TellStreams w.opening.query (after w.state r).goals) (sym same) (over w.opening.program (reached_good stands).accepted w.state r fires w.opening.query names tell)

-- In a standing world a step is taken back, which leaves the standing world z, and the names follow it.
pub stands_back : (w : World) → IsStanding w → (r : Record) → In r w.kept → (z : World) → IsStanding z → z.opening ≡ w.opening
    → IsTakenBack r w.state z.state → (names : List GoalName) → TellStreams w.opening.query w.state.goals names
    → TellStreams w.opening.query z.state.goals (told_back r names)
stands_back w stands r kept z left same_opening back names tell =
    let asked : AreAsked w.opening.query z.state.goals = subst (λ (o : _). AreAsked o.query z.state.goals) same_opening (standing_asked z left) in record {
      last = λ k g x there. elim (come_back w stands r kept z.state back g (stream k x) there) [
        | inl old ↦ elim (same_decided (coded_option coded_ℕ) (stream_of r.consumed) (Some k)) [
          | inl of ↦
              let t = of_stream r.consumed k of in
              let c = consumed_again w stands r kept z.state back (stream k t.0) t.1 in
              absurd (old.1 (c.1.0 ∙ ap Some ((standing_orderly z left).streams_once k c.0 g t.0 x c.2 there)))
          | inr other ↦ renamed_apart (stream_of r.consumed) r.goal k names other ∙ tell.last k g x old.0
        ]
        | inr c ↦
            let a = asked k g x there in
            by_option (name_of k names) (λ none. absurd (tell.placed k a.0 a.1 none)) (λ h e. renamed_here (stream_of r.consumed) r.goal k g h names (ap stream_of c.1) c.0 e)
      ];
      placed = λ k x i. renamed_stays (stream_of r.consumed) r.goal k names (tell.placed k x i);
    }

-- the streams are counted from n + 1 on
abbrev CountFrom : ℕ → List Goal → Type 0
CountFrom n gs = (i k : ℕ) (x : VarName) → slice_get (filter is_stream gs) i ≡ Some (stream k x) → k ≡ n + (i + 1)

-- where the name of a stream goal stands
opened_at : (gs : List Goal) (n p : ℕ) → CountFrom n gs → (j k : ℕ) (x : VarName) → slice_get gs j ≡ Some (stream k x)
    → (i : ℕ) × (k ≡ n + suc i) × (slice_get (opened p gs) i ≡ Some (record { step = 0; place = p + j }))
opened_at [] n p c j k x e = cc
opened_at (stream l y ∷ gs) n p c zero k x e = let number = c 0 k x e in (0, omega (arith, number), ap (λ m. Some (record { step = 0; place = m })) (omega arith))
opened_at (stream l y ∷ gs) n p c (suc j) k x e =
    let (i, number, here) = opened_at gs (n + 1) (p + 1) (λ i k x e. let number = c (suc i) k x e in omega (arith, number)) j k x e in
    (suc i, omega (arith, number), here ∙ ap (λ m. Some (record { step = 0; place = m })) (omega arith))
opened_at (b ∷ gs) n p c zero k x e = cc
opened_at (b ∷ gs) n p c (suc j) k x e = let q = opened_at gs n (p + 1) c j k x e in (q.0, q.1, q.2 ∙ ap (λ m. Some (record { step = 0; place = m })) (omega arith))

-- The names of a query's stream goals tell where they are before any step.
pub opened_tells : (P : Program) (query : Query) → IsQuery P query → TellStreams query (query_state query).goals (opened 1 query)
opened_tells P query asked =
    let placed : (j k : ℕ) (x : VarName) → slice_get query j ≡ Some (stream k x) → name_of k (opened 1 query) ≡ Some (record { step = 0; place = 1 + j }) =
    λ j k x e.
    let (i, number, here) = opened_at query 0 1 (λ i k x e. let number = asked.streams i k x e in omega (arith, number)) j k x e in
    let same : k ≡ suc i = omega (arith, number) in
    rw same here in
    record {
      last = λ k g x e. elim (made_at 0 1 query finite.empty g (stream k x) e) [
        | inl m ↦ placed m.0 k x m.1 ∙ ap Some (sym (same_parts g (record { step = 0; place = 1 + m.0 }) m.2 m.3))
        | inr none ↦ absurd (not_both none (finite.get-empty goal_cmp g))
      ];
      placed = λ k x i. let q = place_at query (stream k x) i in λ none. not_both (placed q.0 k x q.1) none;
    }

-- the names of the goals in front, and of one more
pub opened_more : (gs : List Goal) (i p : ℕ) (b : Goal) → slice_get gs i ≡ Some b → opened p (take (suc i) gs) ≡ opened p (take i gs) ++ opened (p + i) (b ∷ [])
opened_more [] i p b e = cc
opened_more (g ∷ gs) zero p b e = let same : g ≡ b = cc in ap (λ x. opened p (x ∷ [])) same ∙ ap (λ n. opened n (b ∷ [])) (omega arith)
opened_more (stream k s ∷ gs) (suc i) p b e = ap (λ l. record { step = 0; place = p } ∷ l) (opened_more gs i (p + 1) b e ∙ ap (λ n. opened (p + 1) (take i gs) ++ opened n (b ∷ [])) (omega arith))
opened_more (g ∷ gs) (suc i) p b e = opened_more gs i (p + 1) b e ∙ ap (λ n. opened (p + 1) (take i gs) ++ opened n (b ∷ [])) (omega arith)

-- the name of one more goal, if it is a stream goal
pub opened_one : (p : ℕ) (b : Goal) → is_stream b ≡ true → opened p (b ∷ []) ≡ record { step = 0; place = p } ∷ []
opened_one p b e = grind arith

pub opened_none : (p : ℕ) (b : Goal) → is_stream b ≡ false → opened p (b ∷ []) ≡ []
opened_none p b e = grind arith
