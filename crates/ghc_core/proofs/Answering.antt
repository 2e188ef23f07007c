-- Each event has one answer at most.
use Rattle.ghc_core.proofs.Words.{◌≡◌, ℕ, List, ◌∷◌, refl, sym, ap, ◌∙◌, subst, inl, inr, Some, GoalName, value_at, Given as given, Closed as closed, effect_once, attempt_once, Fault, Record, numbers, query_state, Runs, Entry, run_once, record_once, IsSplitAt, IsLawful, IsInOrder, orders, consequences, HasStatus, status_once, Option, Proposal, Hands, with_hand, World, Change, Goes as goes, Coming, Going, Gone, all_gone, with_coming, without_steps, with_order, entry_of_going, CanChange, AreTakenAway, Changes, Command, undo, roll, redo, arrange, ask, Event, propose, commit, note, command, Reply, stepped, undone, noted, refused, Asks, to_give, to_close, to_undo, to_roll, to_redo, to_arrange, to_ask, told_of, Fails, AsksFor, by_hand, by_command, Says, IsRefusedFor, Answers, no_hand, makes, says, fails, no_memory, AttemptAnswers, CommitFails, same_act, same_effect, same_fault, apart, IsOrderly, OrderedHasOneAnswer, EventsHaveOneAnswer, Goal, is_stream, IsNoCandidate, true≢false, false, None}
use Rattle.std.specs.FinMap as finite
use Rattle.ghc_core.proofs.Alone.{none_follow}
use Rattle.ghc_fire.specs.Attempt as attempt
use Rattle.ghc_core.proofs.AskedGoals.{ask_fails_once, ask_or_fail, one_ask}
use Rattle.ghc_core.proofs.Reaching.{reached}
use Rattle.ghc_core.proofs.Refusing.{told_once, first_once, stream_fails_once, commit_fails_once, value_once, has_not}
use Rattle.ghc_core.proofs.Reversing.{undo_fails_once, undo_or_fail, redo_or_fail, redo_fails_once}
use Rattle.ghc_core.proofs.Stepping.{step_once, commit_or_fail, stream_step_or_fail, one_stream_step}

module _ (w : World) (ordered : IsOrderly w) where
  no_candidate : (g : GoalName) (b : Goal) → finite.get w.state.goals g ≡ Some b → is_stream b ≡ false → ¬ IsNoCandidate w g
  no_candidate g b e n (inl p) = has_not e p
  no_candidate g b e n (inr p) = true≢false (sym p.2 ∙ ap is_stream (value_once p.1 e) ∙ n)

  -- a change that can be made is not refused
  made_or_fails : (c : Command) (change : Change) (f : Fault) → Asks c change → CanChange w change → ¬ Fails w c f
  made_or_fails c change fault (to_give {k = k} {t = t} {r = r} o) can f = stream_step_or_fail effect_once w ordered.acyclic ordered.streams_once k (given t) r (o, can) f
  made_or_fails c change fault (to_close {k = k} {r = r} o) can f = stream_step_or_fail effect_once w ordered.acyclic ordered.streams_once k closed r (o, can) f
  made_or_fails c change fault (to_undo {n = n} {gone = gone} number) can f =
      let split = subst (λ others. IsSplitAt w.kept gone.first (gone.first ∷ others) can.1.0) can.2 can.1.1 in
      undo_or_fail w n ordered.kept_once gone.first (can.0, number) (none_follow w.kept gone.first can.1.0 split ordered.kept_once) f
  made_or_fails c change fault (to_roll {gone = gone} number) can f = f.1 gone.first can.0 number
  made_or_fails c change fault (to_redo {n = n} {r = r} number) can f = redo_or_fail w n r (subst (λ m. finite.get w.shelf m ≡ Some r) number can.0) can.1 can.2 can.3 f
  made_or_fails c change fault (to_arrange {order = order} {a = a} same) can f = (orders w.kept ordered.kept_once).no_pair order f.0 f.1 (subst (IsLawful w.kept) same can.0) f.3
  made_or_fails c change fault (to_ask {gs = gs} {r = r} of) can f = ask_or_fail w gs r of can f

  -- a command is refused for one reason
  fails_once : (c : Command) (f g : Fault) → Fails w c f → Fails w c g → f ≡ g
  fails_once (undo n) f g p q = undo_fails_once w n ordered.kept_once p q
  fails_once (roll n) f g p q = p.0 ∙ sym q.0
  fails_once (redo n) f g p q = redo_fails_once w n p q
  fails_once (arrange order) f g p q = let one = (orders w.kept ordered.kept_once).one_pair order _ _ _ _ p.3 q.3 in p.2 ∙ (λ i. Fault.NotLawful (one.0 i) (one.1 i)) ∙ sym q.2
  fails_once (ask gs) f g p q = ask_fails_once w gs p q
  fails_once c f g p q = stream_fails_once p q

  -- worlds from which the same steps were taken away are one
  taken_once : (entry : Entry) {gone far left rest : List Record} {u v : World} → gone ≡ far → left ≡ rest → AreTakenAway w gone left entry u → AreTakenAway w far rest entry v → u ≡ v
  taken_once entry {gone} {far} {left} {rest} same lefts (t, run, e) (x, walk, f) =
      let states : t ≡ x = run_once w.opening.program (query_state w.opening.query) rest t x (subst (λ z. Runs w.opening.program (query_state w.opening.query) z t) lefts run.1) walk.1 in
      e ∙ (λ i. without_steps (same i) (lefts i) (states i) entry w) ∙ sym f

  -- of steps of one number those that go with it are the same
  gone_once : (u v : World) (how : Going) (x y : Gone) → x.first.number ≡ y.first.number → CanChange w (goes how x) → CanChange w (goes how y) → Changes w (goes how x) u → Changes w (goes how y) v
      → (told_of (goes how x) ≡ told_of (goes how y)) × (u ≡ v)
  gone_once u v how x y number can may (left, split, t) (rest, part, z) =
      let same : x.first ≡ y.first = record_once w.kept x.first y.first ordered.kept_once can.0 may.0 number in
      let lists = (consequences w.kept y.first ordered.kept_once).one_split (all_gone x) left (all_gone y) rest (subst (λ r. IsSplitAt w.kept r (all_gone x) left) same split) part in
      (ap (λ rs. undone (numbers rs)) lists.0, taken_once (entry_of_going how y.first) lists.0 lists.1 (subst (λ (r : Record). AreTakenAway w (all_gone x) left (entry_of_going how r) u) same t) z)

  -- a step comes in one way
  comes_once : (from : Coming) {u v : World} {r s : Record} → r ≡ s → u ≡ with_coming from r w → v ≡ with_coming from s w
      → (stepped r.number ≡ stepped s.number) × (u ≡ v)
  comes_once from same e f = (ap (λ (z : Record). stepped z.number) same, e ∙ ap (λ z. with_coming from z w) same ∙ sym f)

  -- a command asks for one change, which has one reply and leaves one world
  change_once : (u v : World) {c : Command} {x y : Change} → Asks c x → Asks c y → CanChange w x → CanChange w y → Changes w x u → Changes w y v → (told_of x ≡ told_of y) × (u ≡ v)
  change_once u v (to_give {k = k} {t = t} {r = r} o) (to_give {r = s} p) m n e f =
      comes_once Coming.Next (one_stream_step effect_once w ordered.acyclic ordered.streams_once k (given t) r s (o, m) (p, n)) e f
  change_once u v (to_close {k = k} {r = r} o) (to_close {r = s} p) m n e f =
      comes_once Coming.Next (one_stream_step effect_once w ordered.acyclic ordered.streams_once k closed r s (o, m) (p, n)) e f
  change_once u v (to_undo a) (to_undo b) can may e f = gone_once u v Going.Alone _ _ (a ∙ sym b) can may e f
  change_once u v (to_roll a) (to_roll b) can may e f = gone_once u v Going.Together _ _ (a ∙ sym b) can may e f
  change_once u v (to_redo {n = n} {r = r} a) (to_redo {r = s} b) can may e f =
      comes_once Coming.Shelved (value_once (subst (λ m. finite.get w.shelf m ≡ Some r) (a ∙ sym b) can.0) may.0) e f
  change_once u v (to_arrange {order = order} {a = a} o) (to_arrange {a = b} p) can may e f =
      let same : a.records ≡ b.records = (orders w.kept ordered.kept_once).one_record order a.records b.records (subst (λ z. IsInOrder w.kept z a.records) o can.1) (subst (λ z. IsInOrder w.kept z b.records) p may.1) in
      (refl, e ∙ (λ i. with_order ((o ∙ sym p) i) (same i) w) ∙ sym f)
  change_once u v (to_ask {gs = gs} {r = r} o) (to_ask {r = s} p) m n e f = comes_once Coming.Next (one_ask w ordered.acyclic gs r s o p m n) e f

  module _ (hands : Hands) where
    -- an event asks for a change, or says what it found
    asks_no_say : {e : Event} {change : Change} {reply : Reply} {left : Hands} → AsksFor w hands e change → Says w hands e reply left → ⊥
    asks_no_say (by_hand there c) said = elim said [ ]
    asks_no_say (by_command a) said = elim said [ ]

    -- an event asks for one change, which has one reply and leaves one world
    asked_once : {e : Event} {x y : Change} {u v : World} → AsksFor w hands e x → AsksFor w hands e y → CanChange w x → CanChange w y → Changes w x u → Changes w y v → (told_of x ≡ told_of y) × (u ≡ v)
    asked_once (by_hand {p = p} {r = r} there c) (by_hand {p = q} {r = s} here d) m n e f =
        let same : p ≡ q = value_once there here in
        let act : r.act ≡ s.act = c.3 ∙ ap (λ (x : Proposal). x.act) same ∙ sym d.3 in
        comes_once Coming.Next (step_once effect_once w ordered.acyclic r s q.goal c.1 d.1 (c.2 ∙ ap (λ (x : Proposal). Some x.goal) same) d.2 act) e f
    asked_once {u = u} {v = v} (by_command a) (by_command b) m n e f = change_once u v a b m n e f

    -- an event that asks for a change that can be made is not refused
    asked_or_refused : (f : Fault) {e : Event} {change : Change} → AsksFor w hands e change → CanChange w change → ¬ IsRefusedFor w hands e f
    asked_or_refused f (by_hand {r = r} there c) can fault = elim fault [ inl e ↦ has_not there e.1 | inr (_, (q, k, why)) ↦ commit_or_fail w r c (subst (λ x. CommitFails w x f) (value_once k there) why) ]
    asked_or_refused f (by_command {c = c} {change = change} a) can why = made_or_fails c change f a can why

    one_attempt : (g : GoalName) (choice : Option ℕ) {a b : attempt.Answer} → AttemptAnswers w g choice a → AttemptAnswers w g choice b → a ≡ b
    one_attempt g choice {a} {b} p q = attempt_once w.opening.program (value_at w.state.store) (finite.get w.state.goals g) choice a b ordered.acyclic p q

    -- an event says one thing
    said_once : {e : Event} {r s : Reply} {left other : Hands} → Says w hands e r left → Says w hands e s other → (r ≡ s) × (left ≡ other)
    said_once (Says.holds {h = h} {g = g} {choice = choice} p is) (Says.holds q are) =
        let answers = one_attempt g choice is.proposed are.proposed in
        let goal : p.goal ≡ q.goal = is.named ∙ sym are.named in
        let consumed : p.consumed ≡ q.consumed = value_once is.there are.there in
        (refl, λ k. with_hand h (record { goal = goal k; consumed = consumed k; act = same_act answers k; effect = same_effect answers k }) hands)
    said_once (Says.tells {g = g} {s = s} (b, there, plain, p)) (Says.tells {s = t} (c, here, clear, q)) =
        (ap (noted g) (status_once w.opening.program (value_at w.state.store) b s t ordered.acyclic p (subst (λ x. HasStatus w.opening.program (value_at w.state.store) x t) (value_once here there) q)), refl)

    -- an event that says what it found is not refused
    said_or_refused : (f : Fault) {e : Event} {reply : Reply} {left : Hands} → Says w hands e reply left → ¬ IsRefusedFor w hands e f
    said_or_refused f (Says.holds {g = g} {choice = choice} p is) why = apart (one_attempt g choice is.proposed why)
    said_or_refused f (Says.tells {g = g} (b, there, plain, status)) why = no_candidate g b there plain why.1

    -- an event is refused for one reason
    refused_once : (e : Event) (f g : Fault) → IsRefusedFor w hands e f → IsRefusedFor w hands e g → f ≡ g
    refused_once (propose h g choice) f k p q = same_fault (one_attempt g choice p q)
    refused_once (commit h) f g p q =
        first_once _ (λ f. (p : Proposal) × (finite.get hands.held h ≡ Some p) × CommitFails w p f) (told_once Fault.Stale (finite.get hands.held h ≡ None))
        (λ a b (x, k, c) (y, l, d). commit_fails_once (subst (λ z. CommitFails w z a) (value_once k l) c) d) f g p q
    refused_once (note g) f k p q = p.0 ∙ sym q.0
    refused_once (command c) f g p q = fails_once c f g p q

    -- an event has one answer
    answers_once : (e : Event) {reply said : Reply} {u v : World} {left other : Hands} → Answers ⊥ w hands e reply u left → Answers ⊥ w hands e said v other
        → (reply ≡ said) × (u ≡ v) × (left ≡ other)
    answers_once e (no_hand none) (no_hand _) = (refl, refl, refl)
    answers_once e (no_hand none) (makes has _ _ _ _) = absurd (none has)
    answers_once e (no_hand none) (says has _) = absurd (none has)
    answers_once e (no_hand none) (fails has _) = absurd (none has)
    answers_once e (makes has _ _ _ _) (no_hand none) = absurd (none has)
    answers_once e (makes _ a can c t) (makes _ b may d s) = let same = asked_once a b can may c d in (t ∙ same.0 ∙ sym s, same.1, refl)
    answers_once e (makes _ a _ _ _) (says _ s) = absurd (asks_no_say a s)
    answers_once e (makes _ a can _ _) (fails {f = f} _ why) = absurd (asked_or_refused f a can why)
    answers_once e (says has _) (no_hand none) = absurd (none has)
    answers_once e (says _ s) (makes _ a _ _ _) = absurd (asks_no_say a s)
    answers_once e (says _ s) (says _ t) = let same = said_once s t in (same.0, refl, same.1)
    answers_once e (says _ s) (fails {f = f} _ why) = absurd (said_or_refused f s why)
    answers_once e (fails has _) (no_hand none) = absurd (none has)
    answers_once e (fails {f = f} _ why) (makes _ a can _ _) = absurd (asked_or_refused f a can why)
    answers_once e (fails {f = f} _ why) (says _ s) = absurd (said_or_refused f s why)
    answers_once e (fails {f = f} _ why) (fails {f = g} _ reason) = (ap refused (refused_once e f g why reason), refl, refl)
    answers_once e (no_memory starved) b = absurd starved
    answers_once e a (no_memory starved) = absurd starved

pub ordered_once : OrderedHasOneAnswer
ordered_once w u v hands left other e reply said ordered a b = answers_once w ordered hands e a b

pub events_once : EventsHaveOneAnswer
events_once w u v hands left other e reply said r p q = ordered_once w u v hands left other e reply said (reached w hands r) p q
