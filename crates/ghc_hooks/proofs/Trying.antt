-- From what clauses, unification and expressions say to the note of a goal.
use Rattle.ghc_hooks.proofs.Words.{◌≡◌, ℕ, zero, suc, ◌<◌, ℤ, Bool, true, false, List, length, refl, sym, subst, ◌⊎◌, arith, Option, Some, None, IsTrue, VarName, Fault, Waits, NoMatch, Arithmetic, Tree, integer, Expression, Goal, call, unify, assign, In, IsAcyclic, Reaches, StoreValue, value_at, Variables, IsSetOf, not_both, member, no_member, set_of, Clause, Program, IsClause, IsFor, IsProgram, is_stream, AreNumbersFor, Accepts, HasValue, number, waits as waits_on, bad, ExpressionReaches, GoalLooksAt, Unifies, UnifyFails, clashes, cycles, no_step, refused, SomeAccepts, SomeWaitsFor, CallAnswers, UnificationAnswers, AssignmentAnswers, Attempts, Unified as unified, Assigned as assigned, no_cycle, united, made_equal, clause_once, Heard, Status, ready, waiting, failed, HasStatus, is_ready, is_waiting, is_failed, is_stream_goal, Note, IsExact}
use Rattle.std.specs.FinSet as set
use Rattle.ghc_hooks.proofs.EachStatus.{each_status}
use Rattle.ghc_hooks.proofs.Hearing.{IsHeard}
use Rattle.ghc_hooks.proofs.LookedAt.{waits_for_looked}

-- a goal whose attempts are never refused is ready, where it has a status
ready_if_not_refused : (P : Program) (S : VarName → Option Tree) (g : Goal) (t : Status) → HasStatus P S g t → is_stream g ≡ false → ((f : Fault) → ¬ Attempts P S (Some g) None (refused f)) → HasStatus P S g ready
ready_if_not_refused P S g t (is_ready act e h) no_stream never = is_ready act e h
ready_if_not_refused P S g t (is_waiting p m) no_stream never = absurd (never Waits p)
ready_if_not_refused P S g t (is_failed {f = f} n p d) no_stream never = absurd (never f p)
ready_if_not_refused P S g t (is_stream_goal n) no_stream never = absurd (not_both (is_stream g) no_stream n)

-- a call that a clause accepts is not refused
not_refused : (P : Program) (f : List ℕ) (ts : List Tree) (S : VarName → Option Tree) (why : Fault) → SomeAccepts P f ts S → ¬ CallAnswers no_step P f ts S (refused why)
not_refused P f ts S why a (CallAnswers.waits nobody w) = nobody a
not_refused P f ts S why a (CallAnswers.no_match nobody idle) = nobody a

-- all clauses for the call have been heard
module _ (P : Program) (accepted : IsProgram P) (s : StoreValue) (acyclic : IsAcyclic (value_at s)) (f : List ℕ) (ts : List Tree) (ks : List ℕ) (numbers : AreNumbersFor P f (length ts) ks) (h : Heard) (heard : IsHeard P ts (value_at s) ks h) where
  abbrev S : VarName → Option Tree
  S = value_at s

  -- the clauses of these numbers are those for the call
  of_call : (Q : Clause → Type 0) → ((k : ℕ) × (c : Clause) × In k ks × IsClause P k c × Q c) → (k : ℕ) × (c : Clause) × IsClause P k c × IsFor f ts c × Q c
  of_call Q w = grind (arith, clause_once)

  by_number : (Q : Clause → Type 0) → ((k : ℕ) × (c : Clause) × IsClause P k c × IsFor f ts c × Q c) → (k : ℕ) × (c : Clause) × In k ks × IsClause P k c × Q c
  by_number Q w = (w.0, w.1, (numbers.«exactly» w.0).1 (w.1, w.2, w.3.0, w.3.1), w.2, w.4)

  awaited_is : IsSetOf h.awaited (SomeWaitsFor P f ts S)
  awaited_is = grind (arith, set_of, of_call, by_number)

  looked_is : IsSetOf h.looked (GoalLooksAt P S (call f ts))
  looked_is = grind (arith, set_of, of_call, by_number)

  pub awaited_is_looked_at : (x : VarName) → IsTrue (set.contains h.awaited x) → IsTrue (set.contains h.looked x)
  awaited_is_looked_at x i = (looked_is x).1 (waits_for_looked P S (call f ts) x ((awaited_is x).0 i))

  nobody : h.accepts ≡ false → ¬ SomeAccepts P f ts S
  nobody denied a = not_both h.accepts denied (heard.accepts.1 (by_number (λ c. Accepts c ts S) a))

  ready_call : h.accepts ≡ true → HasStatus P S (call f ts) ready
  ready_call granted =
      let t = each_status P s (call f ts) accepted acyclic in
      ready_if_not_refused P S (call f ts) t.0 t.1 refl (λ why. not_refused P f ts S why (of_call (λ c. Accepts c ts S) (heard.accepts.0 granted)))

  waiting_call : h.accepts ≡ false → 0 < set.len h.awaited → HasStatus P S (call f ts) (waiting h.awaited)
  waiting_call denied some =
      let m = member h.awaited some in
      is_waiting (CallAnswers.waits (nobody denied) ((awaited_is m.0).0 m.1)) awaited_is

  failed_call : h.accepts ≡ false → set.len h.awaited ≡ 0 → HasStatus P S (call f ts) (failed NoMatch)
  failed_call denied none =
      is_failed refl (CallAnswers.no_match (nobody denied) (λ x w. no_member h.awaited none x ((awaited_is x).1 w))) (λ e. cc)

  -- the note that says so is exact
  pub heard_note : (note : Note) → (h.accepts ≡ true → note.status ≡ ready) → (h.accepts ≡ false → 0 < set.len h.awaited → note.status ≡ waiting h.awaited)
      → (h.accepts ≡ false → set.len h.awaited ≡ 0 → note.status ≡ failed NoMatch) → note.looked ≡ h.looked → IsExact P S (call f ts) note
  heard_note note granted some none looked = (
    by_acceptance h.accepts refl,
    subst (λ xs. IsSetOf xs (GoalLooksAt P S (call f ts))) (sym looked) looked_is,
  ) where
    by_count : h.accepts ≡ false → (n : ℕ) → set.len h.awaited ≡ n → HasStatus P S (call f ts) note.status
    by_count denied zero e = subst (HasStatus P S (call f ts)) (sym (none denied e)) (failed_call denied e)
    by_count denied (suc n) e =
        let there : 0 < set.len h.awaited = omega (arith, e) in
        subst (HasStatus P S (call f ts)) (sym (some denied there)) (waiting_call denied there)

    by_acceptance : (b : Bool) → h.accepts ≡ b → HasStatus P S (call f ts) note.status
    by_acceptance true e = subst (HasStatus P S (call f ts)) (sym (granted e)) (ready_call e)
    by_acceptance false e = by_count e (set.len h.awaited) refl

module _ (P : Program) (s : StoreValue) (acyclic : IsAcyclic (value_at s)) where
  abbrev T : VarName → Option Tree
  T = value_at s

  -- a note with this status that looked at this is exact
  noted : (g : Goal) (t : Status) (note : Note) (looked : Variables) → note.status ≡ t → note.looked ≡ looked → HasStatus P T g t → IsSetOf looked (GoalLooksAt P T g) → IsExact P T g note
  noted g t note looked e l has all = (subst (HasStatus P T g) (sym e) has, subst (λ xs. IsSetOf xs (GoalLooksAt P T g)) (sym l) all)

  module _ (l r : Tree) (looked : Variables) (all : IsSetOf looked (λ x. Reaches T l x ⊎ Reaches T r x)) (note : Note) (kept : note.looked ≡ looked) where
    -- a unification that is solved, and one that is not
    pub united_note : note.status ≡ ready → ((binds : StoreValue) × (reads : Variables) × Unifies T l r binds reads) → IsExact P T (unify l r) note
    united_note e u =
        let made = united P no_step s acyclic l r u.0 u.1 u.2 in
        noted (unify l r) ready note looked e kept (is_ready unified made.0 (UnificationAnswers.solves made.1)) all

    pub apart_note : (why : Fault) → note.status ≡ failed why → UnifyFails T l r why → IsExact P T (unify l r) note
    apart_note why e (clashes c) = noted (unify l r) (failed why) note looked e kept (is_failed refl (UnificationAnswers.clashes c) (λ d. cc)) all
    apart_note why e (cycles c) = noted (unify l r) (failed why) note looked e kept (is_failed refl (UnificationAnswers.cycles c) (λ d. cc)) all

  module _ (t : Tree) (a : Expression) (looked : Variables) (all : IsSetOf looked (λ x. Reaches T t x ⊎ ExpressionReaches T a x)) where
    -- an expression waits for what it looks at
    pub wanted_is_looked_at : (xs : Variables) → HasValue T a (waits_on xs) → (x : VarName) → IsTrue (set.contains xs x) → IsTrue (set.contains looked x)
    wanted_is_looked_at xs w x i = (all x).1 (waits_for_looked P T (assign t a) x ((w.0 x).0 i))

    module _ (note : Note) (kept : note.looked ≡ looked) where
      -- an assignment that waits, one whose expression has no value, one that is made, and one that is not
      pub waiting_note : (xs : Variables) → note.status ≡ waiting xs → HasValue T a (waits_on xs) → IsExact P T (assign t a) note
      waiting_note xs e w = noted (assign t a) (waiting xs) note looked e kept (is_waiting (AssignmentAnswers.waits xs w) w.0) all

      pub bad_note : note.status ≡ failed Arithmetic → HasValue T a bad → IsExact P T (assign t a) note
      bad_note e w = noted (assign t a) (failed Arithmetic) note looked e kept (is_failed refl (AssignmentAnswers.has_no_value w) (λ d. cc)) all

      pub assigned_note : (v : ℤ) → HasValue T a (number v) → note.status ≡ ready → ((binds : StoreValue) × (reads : Variables) × Unifies T t (integer v) binds reads) → IsExact P T (assign t a) note
      assigned_note v k e u =
          let made = made_equal P no_step s acyclic t a v u.0 u.1 k u.2 in
          noted (assign t a) ready note looked e kept (is_ready assigned made.0 (AssignmentAnswers.assigns made.1)) all

      pub unassigned_note : (v : ℤ) → HasValue T a (number v) → (why : Fault) → note.status ≡ failed why → UnifyFails T t (integer v) why → IsExact P T (assign t a) note
      unassigned_note v k why e (clashes c) = noted (assign t a) (failed why) note looked e kept (is_failed refl (AssignmentAnswers.clashes v k c) (λ d. cc)) all
      unassigned_note v k why e (cycles c) = absurd (no_cycle T t v c)
