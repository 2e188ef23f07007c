-- Each event has an answer.
use Rattle.ghc_core.proofs.Words.{◌≡◌, ◌≢◌, ℕ, true, false, Bool, List, length, refl, sym, ap, ◌∙◌, subst, inl, inr, arith, Some, None, Option, GoalName, Fault, Goal, goal_code, IsAcyclic, value_at, Decided, decided_both, IsProgram, is_stream, Act, Given as given, Closed as closed, Asked as asked, Effect, HasEffect, no_step, IsAsk, same_decided, each_answer, effect_decided, effect_each, each_status, kept_limit, Record, IsThere, HasStepEffect, Fires, decided, by_option, asking_fires, Comes as comes, Reorders as reorders, Coming, Proposal, Hands, IsHand, with_hand, emptied, World, with_step, with_coming, with_order, Command, input, finish, undo, roll, redo, arrange, ask, Event, propose, commit, note, command, Reply, held, stepped, noted, arranged, refused, Asks, to_give, to_close, to_redo, to_arrange, to_ask, Fails, Obeys, does, refuses, by_hand, Says, Answers, no_hand, makes, says, fails, IsProper, Reaches, IsOrderly, le_decided, IsNextStep}
use Rattle.std.specs.FinMap as finite
use Rattle.ghc_fire.specs.Attempt as attempt
use Rattle.ghc_core.specs.Proposes as asking
use Rattle.ghc_core.specs.Streams as streams
use Rattle.ghc_core.specs.Laws as laws
use Rattle.ghc_core.proofs.Answered.{room, IsActAnswered, act_answered}
use Rattle.ghc_core.proofs.Moving.{obeyed_answers, noted_answers, reachable_reached}
use Rattle.ghc_core.proofs.AskedGoals.{ask_answered}
use Rattle.ghc_core.proofs.Naming.{known_decided, known_of_act}
use Rattle.ghc_core.proofs.Refusing.{has_not, value_once, not_shelved, no_goal, no_variable, changed, full, stale, no_room}
use Rattle.ghc_core.proofs.Returning.{undoes_answered, rolls_answered}
use Rattle.ghc_core.proofs.Reaching.{reached_good, reached}
use Rattle.ghc_core.proofs.Replayed.{replayed}

hand_decided : (hands : Hands) (h : ℕ) → Decided (IsHand hands h)
hand_decided hands h = decided_both (le_decided 1 h) (le_decided h hands.count)

reduction_decided : (a : Act) → Decided (asking.IsReduction a)
reduction_decided (given u) = inr (λ r. r)
reduction_decided closed = inr (λ r. r)
reduction_decided (asked gs) = inr (λ r. r)
reduction_decided a = inl tt

-- the command has an answer
abbrev IsObeyed : World → Command → Type 0
IsObeyed w c = (reply : Reply) × (v : World) × Obeys ⊥ w c reply v

-- What is known of the shelf: each step stands under its number, and one that consumed nothing is possible.
abbrev IsShelved : World → Type 0
IsShelved w = (n : ℕ) (r : Record) → finite.get w.shelf n ≡ Some r → (r.number ≡ n) × (r.consumed ≡ None → Fires w.opening.program w.state r)

reached_shelf : (w : World) → Reaches w → IsShelved w
reached_shelf w r n s e = (((reached_good r).shelf n s e).0, λ none. asking_fires w.opening.program w.state s ((replayed r).asking n s e none))

-- the event has an answer
abbrev Answered : World → Hands → Event → Type 0
Answered w hands e = (reply : Reply) × (v : World) × (left : Hands) × Answers ⊥ w hands e reply v left

module _ (w : World) (accepted : IsProgram w.opening.program) (acyclic : IsAcyclic (value_at w.state.store)) (shelved : IsShelved w) where
  -- an attempt that proposes something has a goal
  proposing : (h : ℕ) (g : GoalName) (choice : Option ℕ) (hands : Hands) → IsHand hands h → (o : Option Goal) → finite.get w.state.goals g ≡ o → (a : attempt.Answer)
      → attempt.Attempts w.opening.program (value_at w.state.store) o choice a → Answered w hands (propose h g choice)
  proposing h g choice hands i o e (attempt.Answer.refused f) t =
      (refused f, w, hands, fails i (subst (λ z. attempt.Attempts w.opening.program (value_at w.state.store) z choice (attempt.refused f)) (sym e) t))
  proposing h g choice hands i None e (attempt.Answer.proposes act x) t = let no_goal : attempt.proposes act x ≡ attempt.refused Fault.NoGoal = t in cc
  proposing h g choice hands i (Some b) e (attempt.Answer.proposes act x) t =
      let p : Proposal = record { goal = g; consumed = b; act = act; effect = x } in
      let is : asking.IsProposedIn w g choice p = record { named = refl; there = e; proposed = subst (λ z. attempt.Attempts w.opening.program (value_at w.state.store) z choice (attempt.proposes act x)) (sym e) t } in
      (held h, w, with_hand h p hands, says i (Says.holds p is))

  proposed : (hands : Hands) (h : ℕ) (g : GoalName) (choice : Option ℕ) → Answered w hands (propose h g choice)
  proposed hands h g choice = elim (hand_decided hands h) [
    | inr n ↦ (refused Fault.Command, w, hands, no_hand n)
    | inl i ↦
        let a = each_answer w.opening.program w.state.store (finite.get w.state.goals g) choice accepted acyclic in
        proposing h g choice hands i (finite.get w.state.goals g) refl a.0 a.1
  ]

  -- a proposal still holds, or does not
  holds_decided : (p : Proposal) → Decided (asking.StillHolds w p)
  holds_decided p = elim (reduction_decided p.act) [
    | inr n ↦ inr (λ h. n h.1)
    | inl r ↦ by_option (finite.get w.state.goals p.goal) (λ e. inr (λ h. has_not h.2 e)) (λ b e.
        elim (effect_decided w.opening.program b p.act no_step w.state.store p.effect accepted acyclic) [
          | inl d ↦ inl (b, r, e, d)
          | inr n ↦ inr (λ h. n (subst (λ z. HasEffect w.opening.program z p.act no_step (value_at w.state.store) p.effect) (value_once h.2 e) h.3))
        ])
  ]

  committed : (hands : Hands) (h : ℕ) → Answered w hands (commit h)
  committed hands h = elim (hand_decided hands h) [
    | inr n ↦ (refused Fault.Command, w, hands, no_hand n)
    | inl i ↦ by_option (finite.get hands.held h) (λ e. (refused Fault.Stale, w, emptied h hands, fails i (inl (refl, e)))) (λ p e. elim (holds_decided p) [
      | inr n ↦ (refused Fault.Stale, w, emptied h hands, fails i (inr ((λ f none. has_not e none.1), (p, e, stale n))))
      | inl s ↦ elim (room w) [
        | inr many ↦ (refused Fault.Full, w, emptied h hands, fails i (inr ((λ f none. has_not e none.1), (p, e, no_room s many))))
        | inl free ↦
            let f = effect_each w.opening.program s.0 p.act no_step w.next (value_at w.state.store) p.effect s.3 in
            let r : Record = record { number = w.next; goal = Some p.goal; consumed = Some s.0; act = p.act; effect = f.0 } in
            let known = known_of_act w.opening.program w.opening.query w.kept r s.0 w.next (value_at w.state.store) f.0 f.1 in
            let next : IsNextStep w r = (refl, ((s.0, refl, s.2), f.1), free, known) in
            (stepped w.next, with_step r w, emptied h hands, makes {change = comes Coming.Next r} i (by_hand e (s, next, refl, refl)) next refl refl)
      ]
    ])
  ]

  noted_so : (g : GoalName) (b : Goal) (stream : Bool) → finite.get w.state.goals g ≡ Some b → is_stream b ≡ stream → (reply : Reply) × asking.Notes ⊥ w g reply
  noted_so g b true e s = (refused Fault.NoGoal, asking.Notes.no_goal (inr (b, e, s)))
  noted_so g b false e s = let t = each_status w.opening.program w.state.store b accepted acyclic in (noted g t.0, asking.Notes.tells (b, e, s, t.1))

  noticed : (g : GoalName) → (reply : Reply) × asking.Notes ⊥ w g reply
  noticed g = by_option (finite.get w.state.goals g) (λ e. (refused Fault.NoGoal, asking.Notes.no_goal (inl e))) (λ b e. noted_so g b (is_stream b) e refl)

  -- what a step consumes is there, or is not
  there_decided : (g : Option GoalName) (consumed : Option Goal) → Decided (IsThere w.state.goals g consumed)
  there_decided None None = inl refl
  there_decided None (Some b) = inr (λ e. let no : Some b ≡ None = e in cc)
  there_decided (Some g) consumed = by_option (finite.get w.state.goals g) (λ e. inr (λ h. has_not h.2 e)) (λ b e.
      by_option consumed (λ none. inr (λ h. has_not h.1 none)) (λ c some. elim (same_decided goal_code b c) [
        | inl p ↦ inl (b, some ∙ ap Some (sym p), e)
        | inr n ↦ inr (λ h. n (value_once e h.2 ∙ value_once h.1 some))
      ]))

  step_decided : (b : Goal) (consumed : Option Goal) (a : Act) (n : ℕ) (e : Effect) → consumed ≡ Some b → Decided (HasStepEffect w.opening.program consumed a n (value_at w.state.store) e)
  step_decided b consumed a n e same =
      subst (λ o. Decided (HasStepEffect w.opening.program o a n (value_at w.state.store) e)) (sym same) (effect_decided w.opening.program b a n w.state.store e accepted acyclic)

  -- a step that consumed nothing is possible, if it is on the shelf
  fires_decided : (r : Record) → (r.consumed ≡ None → Fires w.opening.program w.state r) → Decided (Fires w.opening.program w.state r)
  fires_decided r asks = by_option r.consumed (λ none. inl (asks none)) (λ b some. decided_both (there_decided r.goal r.consumed) (step_decided b r.consumed r.act r.number r.effect some))

  abbrev Redone : ℕ → Type 0
  Redone n = IsObeyed w (redo n)

  with_goal : (n : ℕ) (r : Record) → finite.get w.shelf n ≡ Some r → ((g : GoalName) → r.goal ≡ Some g → finite.get w.state.goals g ≢ None) → Redone n
  with_goal n r e there = elim (known_decided w.opening.query w.kept r) [
    | inr unknown ↦ (refused Fault.NoVariable, w, refuses (no_variable r e there unknown))
    | inl known ↦ elim (fires_decided r (shelved n r e).1) [
      | inr other ↦ (refused Fault.Changed, w, refuses (changed r e there known other))
      | inl f ↦ elim (le_decided kept_limit (length w.kept)) [
        | inl many ↦ (refused Fault.Full, w, refuses (full r e known f many))
        | inr few ↦
            let number : r.number ≡ n = (shelved n r e).0 in
            (stepped n, with_coming Coming.Shelved r w, does {change = comes Coming.Shelved r} (to_redo number) (subst (λ m. finite.get w.shelf m ≡ Some r) (sym number) e, f, omega (arith, few), known) refl (ap stepped (sym number)))
      ]
    ]
  ]

  from_shelf : (n : ℕ) (r : Record) → finite.get w.shelf n ≡ Some r → Redone n
  from_shelf n r e = by_option r.goal (λ none. with_goal n r e (λ g named lacking. has_not named none)) (λ g s. by_option (finite.get w.state.goals g)
      (λ q. (refused Fault.NoGoal, w, refuses (no_goal r g e s q)))
      (λ b q. with_goal n r e (λ h t lacking. has_not q (ap (finite.get w.state.goals) (value_once s t) ∙ lacking))))

  redone : (n : ℕ) → Redone n
  redone n = by_option (finite.get w.shelf n) (λ e. (refused Fault.NotShelved, w, refuses (not_shelved e))) (from_shelf n)

-- an act on a stream is a change for which the command asks, or is refused
acted : (w : World) (c : Command) (k : ℕ) (act : Act) → ((r : Record) → streams.IsOfStream k act r → Asks c (comes Coming.Next r)) → ((f : Fault) → streams.StreamFails w k f → Fails w c f) → IsActAnswered w k act → IsObeyed w c
acted w c k act asks why (inl (r, (o, next))) = (stepped r.number, with_step r w, does {change = comes Coming.Next r} (asks r o) next refl refl)
acted w c k act asks why (inr (f, fault)) = (refused f, w, refuses (why f fault))

arranges_answered : (w : World) (order : List ℕ) → IsOrderly w → IsObeyed w (arrange order)
arranges_answered w order ordered = elim (decided w.kept order ordered.kept_once) [
  | inl p ↦ (arranged, with_order order p.1.0 w, does {change = reorders (record { records = p.1.0; order = order })} (to_arrange refl) (p.0, p.1.1) refl refl)
  | inr f ↦ (refused (Fault.NotLawful f.0 f.1), w, refuses (f.0, f.1, refl, f.2))
]

asks_answered : (w : World) (gs : List Goal) → Reaches w → IsAsk gs → IsObeyed w (ask gs)
asks_answered w gs r proper = elim (ask_answered w r gs proper) [
  | inl (s, of, next) ↦ (stepped s.number, with_step s w, does {change = comes Coming.Next s} (to_ask of) next refl refl)
  | inr (f, why) ↦ (refused f, w, refuses why)
]

commands_answered : (w : World) (c : Command) → Reaches w → IsOrderly w → IsProper (command c) → IsObeyed w c
commands_answered w (input k t) r ordered proper = acted w (input k t) k (given t) (λ s o. to_give o) (λ f e. e) (act_answered w ordered k (given t) (inl (t, refl, proper)))
commands_answered w (finish k) r ordered proper = acted w (finish k) k closed (λ s o. to_close o) (λ f e. e) (act_answered w ordered k closed (inr refl))
commands_answered w (undo n) r ordered proper = undoes_answered w n r
commands_answered w (roll n) r ordered proper = rolls_answered w n r
commands_answered w (redo n) r ordered proper = redone w (reached_good r).accepted ordered.acyclic (reached_shelf w r) n
commands_answered w (arrange order) r ordered proper = arranges_answered w order ordered
commands_answered w (ask gs) r ordered proper = asks_answered w gs r proper

pub events_answered : laws.EventsHaveAnAnswer
events_answered w hands e r proper =
    let q = reachable_reached r in
    answered w hands (reached_good q).accepted (reached w hands r) (reached_shelf w q) q e proper where
      answered : (w : World) (hands : Hands) → IsProgram w.opening.program → (ordered : IsOrderly w) → IsShelved w → Reaches w → (e : Event) → IsProper e → Answered w hands e
      answered w hands accepted ordered shelved q (propose h g choice) proper = proposed w accepted ordered.acyclic shelved hands h g choice
      answered w hands accepted ordered shelved q (commit h) proper = committed w accepted ordered.acyclic shelved hands h
      answered w hands accepted ordered shelved q (note g) proper = let a = noticed w accepted ordered.acyclic shelved g in (a.0, w, hands, noted_answers hands a.1)
      answered w hands accepted ordered shelved q (command c) proper = let a = commands_answered w c q ordered proper in (a.0, a.1, hands, obeyed_answers hands a.2)
