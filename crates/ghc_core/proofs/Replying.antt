-- What a core replies to commands and notes is the answer of the definitions.
use Rattle.ghc_core.proofs.Words.{◌≡◌, ◌⊎◌, ℕ, refl, sym, ap, ◌∙◌, subst, inl, inr, Some, None, Option, false, GoalName, Fault, Goal, call, unify, assign, stream, value_at, is_stream, Status, failed, HasStatus, Note, Proposal, Hands, IsHand, with_hand, emptied, World, IsCommitted, Command, propose, commit, held, stepped, noted, refused, IsNoteOf, Fails, Obeys, refuses, starves, by_hand, Says, Answers, makes, says, fails, no_memory, IsCauseOfFailure}
use Rattle.std.specs.FinMap as finite
use Rattle.ghc_fire.specs.Attempt as attempt
use Rattle.ghc_core.specs.Proposes as asking
use Rattle.ghc_core.proofs.Refusing.{has_not}

-- Memory was refused, or not: nothing is known of it.
abbrev pub Unknown : Type 0
Unknown = Unit {0}

-- why a call of a core is refused: memory, or the fault that it reports
abbrev pub Why : (Fault → Type 0) → Fault → Type 0
Why Fails f = (f ≡ Fault.Memory) ⊎ Fails f

module _ (w : World) where
  -- a command that is refused, for memory or for the fault reported
  pub not_obeyed : (c : Command) (f : Fault) (v : World) → Why (Fails w c) f → v ≡ w → Obeys Unknown w c (refused f) v
  not_obeyed c f v why same = rw same (elim why [ inl m ↦ rw m (starves tt) | inr o ↦ refuses o ])

  -- a goal that is no stream goal and of which an attempt with no clause chosen is refused waits, or that is why it fails
  refusal_is : (f : Fault) (b : Goal) → is_stream b ≡ false → attempt.Attempts w.opening.program (value_at w.state.store) (Some b) None (attempt.refused f) → (f ≡ Fault.Waits) ⊎ IsCauseOfFailure f
  refusal_is f (call name ts) plain (attempt.CallAnswers.waits n s) = inl refl
  refusal_is f (call name ts) plain (attempt.CallAnswers.no_match n s) = inr (inl refl)
  refusal_is f (unify l r) plain (attempt.UnificationAnswers.clashes c) = inr (inr (inl refl))
  refusal_is f (unify l r) plain (attempt.UnificationAnswers.cycles c) = inr (inr (inr (inl refl)))
  refusal_is f (assign t a) plain (attempt.AssignmentAnswers.waits xs h) = inl refl
  refusal_is f (assign t a) plain (attempt.AssignmentAnswers.has_no_value h) = inr (inr (inr (inr refl)))
  refusal_is f (assign t a) plain (attempt.AssignmentAnswers.clashes v h c) = inr (inr (inl refl))
  refusal_is f (stream k s) plain a = cc

  failure_is : (f : Fault) (b : Goal) (s : Status) → is_stream b ≡ false → HasStatus w.opening.program (value_at w.state.store) b s → s ≡ failed f → IsCauseOfFailure f
  failure_is f b s plain (HasStatus.is_failed {f = g} not t waits) same =
      let one : g ≡ f = cc in
      subst IsCauseOfFailure one (elim (refusal_is g b plain t) [ inl e ↦ absurd (waits e) | inr c ↦ c ])
  failure_is f b s plain h same = cc

  -- what a note says of why its goal fails, and what the reply says of it
  pub note_failure : (g : GoalName) (n : Note) → IsNoteOf w g n → (f : Fault) → n.status ≡ failed f → IsCauseOfFailure f
  note_failure g n (b, candidate, exact) f same = failure_is f b n.status candidate.1 exact.0 same

  pub note_told_so : (g : GoalName) (n : Note) (s : Status) → IsNoteOf w g n → s ≡ n.status → asking.Notes Unknown w g (noted g s)
  note_told_so g n s (b, candidate, exact) same = asking.Notes.tells (b, candidate.0, candidate.1, subst (HasStatus w.opening.program (value_at w.state.store) b) (sym same) exact.0)

  pub note_refused : (g : GoalName) (f : Fault) → Why (λ f. asking.Notes ⊥ w g (refused f)) f → asking.Notes Unknown w g (refused f)
  note_refused g f (inl m) = rw m (asking.Notes.no_memory tt)
  note_refused g f (inr (asking.Notes.no_goal n)) = asking.Notes.no_goal n
  note_refused g f (inr (asking.Notes.no_memory m)) = absurd m

  module _ (hands : Hands) (h : ℕ) (has : IsHand hands h) where
    -- the hand holds what an attempt proposes
    pub hand_holds : (g : GoalName) (choice : Option ℕ) (p : Proposal) (left : Hands) → asking.IsProposedIn w g choice p → left ≡ with_hand h p hands → Answers Unknown w hands (propose h g choice) (held h) w left
    hand_holds g choice p left is same = subst (Answers Unknown w hands (propose h g choice) (held h) w) (sym same) (says has (Says.holds p is))

    -- the attempt was refused
    pub hand_refused : (g : GoalName) (choice : Option ℕ) (f : Fault) → Why (λ f. asking.AttemptAnswers w g choice (attempt.refused f)) f → Answers Unknown w hands (propose h g choice) (refused f) w hands
    hand_refused g choice f (inl m) = subst (λ e. Answers Unknown w hands (propose h g choice) (refused e) w hands) (sym m) (no_memory tt)
    hand_refused g choice f (inr a) = fails has a

    -- the hand commits what it held
    pub hand_commits : (p : Proposal) (n : ℕ) (v : World) (left : Hands) → finite.get hands.held h ≡ Some p → IsCommitted w p v n → left ≡ emptied h hands → Answers Unknown w hands (commit h) (stepped n) v left
    hand_commits p n v left there (r, c, number, after) same =
        subst (Answers Unknown w hands (commit h) (stepped n) v) (sym same) (makes has (by_hand there c) c.1 after (ap stepped (number ∙ sym c.1.0)))

    -- the hand is empty, for nothing was held, or the commit was refused
    pub hand_was_empty : (left : Hands) → finite.get hands.held h ≡ None → left ≡ emptied h hands → Answers Unknown w hands (commit h) (refused Fault.Stale) w left
    hand_was_empty left none same = subst (Answers Unknown w hands (commit h) (refused Fault.Stale) w) (sym same) (fails has (inl (refl, none)))

    pub hand_gives_up : (p : Proposal) (f : Fault) (v : World) (left : Hands) → finite.get hands.held h ≡ Some p → Why (asking.CommitFails w p) f → v ≡ w → left ≡ emptied h hands
        → Answers Unknown w hands (commit h) (refused f) v left
    hand_gives_up p f v left there why stays same =
        rw (stays, same) (elim why [
          | inl m ↦ rw m (no_memory tt)
          | inr c ↦ fails has (inr ((λ f none. has_not there none.1), (p, there, c)))
        ])
