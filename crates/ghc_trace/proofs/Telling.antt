-- Where notes are exact and nothing is untried, they say which goals are resumed or stuck.
use Rattle.ghc_trace.proofs.Words.{◌≡◌, ◌≢◌, true, false, ◌⊎◌, List, refl, sym, ap, ◌∙◌, subst, inl, inr, ◌↔◌, Option, Some, None, is_some, IsTrue, VarName, GoalName, IsAcyclic, Tree, Goal, In, Variables, StoreValue, value_at, Decided, some_decided, true_decided, not_both, any_in, in_any, Program, is_stream, goal_cmp, Goals, Record, MakesGoal, Binds, Status, ready, waiting, failed, streaming, HasStatus, is_stream_goal, StandsAs, IsHookedOn, Note, NotesByGoal, AreExact, AreLeft, IsUntried, awaits, status_once, exact_awaits, Opening, World, Change, Comes as comes, Goes as goes, Reorders as reorders, all_gone, IsBoundBy, opening_stays, reached_good, IsStuck, Standing, IsSettled, Brings, NotesTellPorts, NotesTellNews, stuck_of, stuck_by, Disturbed, IsOneOf, AreAsNoted, AreDisturbed, WaitsWhereBound, AreResumedBy, IsStuckOtherwise, AreStuckOtherwise, status_by, Stuck, Waiting}
use Rattle.std.specs.FinMap as finite
use Rattle.std.specs.FinSet as set
use Rattle.ghc_trace.proofs.Changed.{changed_from}
use Rattle.ghc_trace.proofs.Entries.{found}
use Rattle.ghc_trace.proofs.Causes.{some_stuck, stuck_once}

some_once : {X : Type 0} {x y : X} → Some x ≡ Some y → x ≡ y
some_once e = cc

some_none : {X : Type 0} {x : X} → Some x ≡ None → ⊥
some_none e = cc

no_stream_stuck : (P : Program) (S : VarName → Option Tree) (b : Goal) (s : Status) → IsAcyclic S → HasStatus P S b s → IsStuck s → is_stream b ≡ false
no_stream_stuck P S b s c h i = elim (is_stream b) as (λ t. is_stream b ≡ t → t ≡ false) [
  | true ↦ λ e. absurd (subst IsStuck (status_once P S b s streaming c h (is_stream_goal e)) i)
  | false ↦ λ e. refl
] refl

-- where the set of untried goals is empty, no goal is untried
pub none_untried : {P : Program} {G : Goals} {store : StoreValue} {notes : NotesByGoal} → AreExact P G store notes set.empty → (g : GoalName) → ¬ IsUntried G notes g
none_untried exact g u = not_both (set.contains set.empty g) (set.contains-empty goal_cmp g) ((exact.marked g).1 u)

-- Notes that fit the goals and the store, with nothing untried.
pub record Settled (P : Program) (G : Goals) (store : StoreValue) (notes : NotesByGoal) : Type 0 where
  pub exact : AreExact P G store notes set.empty
  pub acyclic : IsAcyclic (value_at store)

module _ (P : Program) (G : Goals) (store : StoreValue) (notes : NotesByGoal) (settled : Settled P G store notes) where
  -- a note is the status
  pub note_stands : (g : GoalName) (note : Note) → finite.get notes g ≡ Some note → StandsAs P G store g note.status
  note_stands g note e = let n = settled.exact.noted g note e in (n.0, n.1, n.3.0)

  -- a goal that is stuck has its status by its note
  pub stuck_noted : (g : GoalName) (s : Status) → StandsAs P G store g s → IsStuck s → (note : Note) × (finite.get notes g ≡ Some note) × (note.status ≡ s)
  stuck_noted g s st i = elim (found (finite.get notes g)) [
    | inl n ↦
        let k = settled.exact.noted g n.0 n.1 in
        let same : k.0 ≡ st.0 = some_once (sym k.1 ∙ st.1) in
        (n.0, n.1, status_once P (value_at store) st.0 n.0.status s settled.acyclic (subst (λ b. HasStatus P (value_at store) b n.0.status) same k.3.0) st.2)
    | inr e ↦ absurd (none_untried settled.exact g (st.0, st.1, no_stream_stuck P (value_at store) st.0 s settled.acyclic st.2 i, e))
  ]

  -- what is disturbed was stuck as its note says
  was : (d : Disturbed) → AreAsNoted notes d → (g : GoalName) → IsOneOf d g → finite.get d g ≡ Some (stuck_by (finite.get notes g))
  was d noted g i = elim (found (finite.get d g)) [
    | inl f ↦ f.1 ∙ ap Some (noted g f.0 f.1)
    | inr e ↦ absurd (not_both (is_some (finite.get d g)) (ap is_some e) i)
  ]

  module _ (r : Record) (Brought : GoalName → Type 0) (d : Disturbed) (disturbed : AreDisturbed notes (Binds r) Brought d) where
    waits_in : (note : Note) (s : Status) → note.status ≡ s → WaitsWhereBound r (stuck_of s)
        → (n : Note) × (xs : Variables) × (x : VarName) × (Some note ≡ Some n) × (n.status ≡ waiting xs) × IsTrue (set.contains xs x) × Binds r x
    waits_in note ready e w = absurd w
    waits_in note (waiting xs) e w = (note, xs, w.0, refl, e, w.1, w.2)
    waits_in note (failed f) e w = absurd w
    waits_in note streaming e w = absurd w

    waits_by : (o : Option Note) (before : Option Stuck) → before ≡ stuck_by o → WaitsWhereBound r before
        → (note : Note) × (xs : Variables) × (x : VarName) × (o ≡ Some note) × (note.status ≡ waiting xs) × IsTrue (set.contains xs x) × Binds r x
    waits_by None before e w = absurd (subst (WaitsWhereBound r) e w)
    waits_by (Some note) before e w = waits_in note note.status refl (subst (WaitsWhereBound r) e w)

    -- the goals named are those with a hook on a variable that the step binds
    pub resumed_right : (names : List GoalName) → AreResumedBy r d names → (g : GoalName) → In g names ↔ ((x : VarName) × IsHookedOn P G store x g × Binds r x)
    resumed_right names named g = (
      λ i.
          let p = (named.each g).0 i in
          let q = waits_by (finite.get notes g) p.0 (disturbed.as_noted g p.0 p.1) p.2 in
          (q.2, (q.1, subst (StandsAs P G store g) q.4 (note_stands g q.0 q.3), q.5), q.6),
      λ h.
          let n = stuck_noted g (waiting h.1.0) h.1.1 tt in
          let k = settled.exact.noted g n.0 n.1 in
          let looked : IsTrue (set.contains n.0.looked h.0) = exact_awaits P (value_at store) k.0 n.0 k.3 h.0 (ap (λ s. awaits s h.0) n.2 ∙ h.1.2) in
          let among : IsOneOf d g = (disturbed.members g).1 (inl (h.0, h.2, (n.0, n.1, looked))) in
          let before : stuck_by (finite.get notes g) ≡ Some (Waiting h.1.0) = ap stuck_by n.1 ∙ ap stuck_of n.2 in
          (named.each g).1 (Some (Waiting h.1.0), was d disturbed.as_noted g among ∙ ap Some before, (h.0, h.1.2, h.2)),
    )

-- After a change that binds or frees what is touched, the goals of H are those of G, or were brought.
module _ (P : Program) (G H : Goals) (store after : StoreValue) (old mid new : NotesByGoal) (before : Settled P G store old) (behind : Settled P H after new)
    (Touched : VarName → Type 0) (touched_or_not : (x : VarName) → Decided (Touched x)) (left : AreLeft H Touched old mid) (kept : (g : GoalName) (note : Note) → finite.get mid g ≡ Some note → finite.get new g ≡ Some note)
    (Brought : GoalName → Type 0) (from : (g : GoalName) (b : Goal) → finite.get H g ≡ Some b → (finite.get G g ≡ Some b) ⊎ Brought g)
    (d : Disturbed) (disturbed : AreDisturbed old Touched Brought d) where
  looks_or_not : (note : Note) → Decided ((x : VarName) × In x (set.items note.looked) × Touched x)
  looks_or_not note = some_decided (set.items note.looked) Touched (λ x i. touched_or_not x)

  -- a goal that was noted and did not look at what is touched keeps its note
  stays : (g : GoalName) (note : Note) (b : Goal) → finite.get old g ≡ Some note → finite.get H g ≡ Some b → ¬ ((x : VarName) × In x (set.items note.looked) × Touched x)
      → finite.get new g ≡ Some note
  stays g note b e there n =
      kept g note ((left g note).1 (e, (λ none. some_none (sym there ∙ none)), λ x bound looked. n (x, any_in x (set.items note.looked) (sym (set.contains-items note.looked x) ∙ looked), bound)))

  -- what is news was disturbed
  news_disturbed : (g : GoalName) (s : Status) → StandsAs P H after g s → IsStuck s → ¬ StandsAs P G store g s → IsOneOf d g
  news_disturbed g s st i new_status = elim (found (finite.get old g)) [
    | inl n ↦ elim (looks_or_not n.0) [
      | inl l ↦ (disturbed.members g).1 (inl (l.0, l.2, (n.0, n.1, set.contains-items n.0.looked l.0 ∙ in_any l.0 (set.items n.0.looked) l.1)))
      | inr none ↦
          let now = stuck_noted P H after new behind g s st i in
          let same : n.0 ≡ now.0 = some_once (sym (stays g n.0 st.0 n.1 st.1 none) ∙ now.1) in
          absurd (new_status (subst (StandsAs P G store g) (ap (λ z. z.status) same ∙ now.2) (note_stands P G store old before g n.0 n.1)))
    ]
    | inr e ↦ elim (from g st.0 st.1) [
      | inl there ↦ absurd (none_untried before.exact g (st.0, there, no_stream_stuck P (value_at after) st.0 s behind.acyclic st.2 i, e))
      | inr b ↦ (disturbed.members g).1 (inr b)
    ]
  ]

  otherwise_in : (b : Option Stuck) (o : Option Note) → IsStuckOtherwise b o → (note : Note) × (o ≡ Some note) × IsStuck note.status × (b ≢ stuck_of note.status)
  otherwise_in b None h = absurd h
  otherwise_in b (Some note) h = (note, refl, h.0, h.1)

  -- a goal that was stuck so, by its note
  was_stuck : (o : Option Note) (s : Status) → IsStuck s → stuck_by o ≡ stuck_of s → (note : Note) × (o ≡ Some note) × (stuck_of note.status ≡ stuck_of s)
  was_stuck None s i e = absurd (some_stuck s i e)
  was_stuck (Some note) s i e = (note, refl, e)

  -- the news told are those of the change
  pub news_right : (news : List Standing) → AreStuckOtherwise new d news → (g : GoalName) (s : Status)
      → In (g, s) news ↔ (StandsAs P H after g s × IsStuck s × ¬ StandsAs P G store g s)
  news_right news told g s = (
    λ i.
        let p = (told.each g s).0 i in
        let o = otherwise_in p.0 (finite.get new g) p.2 in
        let status : s ≡ o.0.status = p.3 ∙ ap status_by o.1 in (
          subst (StandsAs P H after g) (sym status) (note_stands P H after new behind g o.0 o.1),
          subst IsStuck (sym status) o.2,
          λ st.
              let n = stuck_noted P G store old before g s st (subst IsStuck (sym status) o.2) in
              o.3 (disturbed.as_noted g p.0 p.1 ∙ ap stuck_by n.1 ∙ ap stuck_of n.2 ∙ ap stuck_of status),
        ),
    λ h.
        let now = stuck_noted P H after new behind g s h.0 h.1 in
        let among = news_disturbed g s h.0 h.1 h.2 in
        (told.each g s).1 (
          stuck_by (finite.get old g),
          was P G store old before d disturbed.as_noted g among,
          subst (IsStuckOtherwise (stuck_by (finite.get old g))) (sym now.1) (
            subst IsStuck (sym now.2) h.1,
            λ e.
                let w = was_stuck (finite.get old g) s h.1 (e ∙ ap stuck_of now.2) in
                let k = note_stands P G store old before g w.0 w.1 in
                h.2 (subst (StandsAs P G store g) (stuck_once P P (value_at store) (value_at after) k.0 h.0.0 w.0.status s k.2 h.0.2 h.1 w.2) k),
          ),
          sym (ap status_by now.1 ∙ now.2),
        ),
  )

pub settled_in : {w : World} {notes : NotesByGoal} → IsSettled w notes → Settled w.opening.program w.state.goals w.state.store notes
settled_in s = record { exact = s.exact; acyclic = (reached_good s.standing).acyclic }

pub ports_told : NotesTellPorts
ports_told w r notes d names settled disturbed named =
    (names, resumed_right w.opening.program w.state.goals w.state.store notes (settled_in settled) r (MakesGoal r) d disturbed names named, named.ordered, refl)

-- a change binds or frees a variable, or does not
bound_or_not : (change : Change) (x : VarName) → Decided (IsBoundBy change x)
bound_or_not (comes from r) x = true_decided (finite.contains_key r.effect.binds x)
bound_or_not (goes how gone) x = some_decided (all_gone gone) (λ r. Binds r x) (λ r i. true_decided (finite.contains_key r.effect.binds x))
bound_or_not (reorders a) x = inr (λ b. b)

pub news_told : NotesTellNews
news_told w v change old left new d news before can changes are_left still behind disturbed told =
    let program : v.opening.program ≡ w.opening.program = ap (λ (o : Opening). o.program) (opening_stays w v change can changes) in
    let after : Settled w.opening.program v.state.goals v.state.store new = subst (λ P. Settled P v.state.goals v.state.store new) program (settled_in behind) in
    let right = news_right w.opening.program w.state.goals v.state.goals w.state.store v.state.store old left new (settled_in before) after (IsBoundBy change) (bound_or_not change) are_left still
    (Brings change) (changed_from w v change before.standing can changes) d disturbed news told in
    record {
      each = λ g s. (
        λ i. let r = (right g s).0 i in (subst (λ P. StandsAs P v.state.goals v.state.store g s) (sym program) r.0, r.1, r.2),
        λ n. (right g s).1 (subst (λ P. StandsAs P v.state.goals v.state.store g s) program n.0, n.1, n.2),
      );
      ordered = told.ordered;
    }
