-- Goals that are stuck in one way have one status: a goal fails for a refusal that tells nothing but its number.
use Rattle.ghc_trace.proofs.Words.{◌≡◌, false, List, [], ℕ, refl, sym, ap, ◌∙◌, subst, Option, Some, None, VarName, Fault, fault_number, Tree, Expression, Goal, call, unify, assign, stream, Program, is_stream, no_step, Answer, proposes, refused, Attempts, CallAnswers, UnificationAnswers, AssignmentAnswers, Status, ready, waiting, failed, streaming, HasStatus, is_ready, is_waiting, is_failed, is_stream_goal, told_by, fault_at, fault_back, IsStuck, stuck_of, Stuck, Waiting, Failed}

-- The refusal tells nothing but its number.
abbrev IsBare : Fault → Type 0
IsBare f = told_by f ≡ (0, (0, []))

-- The answer is a proposal or such a refusal.
abbrev IsPlain : Answer → Type 0
IsPlain (proposes a e) = Unit {0}
IsPlain (refused f) = IsBare f

call_plain : (P : Program) (S : VarName → Option Tree) (f : List ℕ) (ts : List Tree) (a : Answer) → CallAnswers no_step P f ts S a → IsPlain a
call_plain P S f ts a (CallAnswers.by_least l h) = tt
call_plain P S f ts a (CallAnswers.waits n w) = refl
call_plain P S f ts a (CallAnswers.no_match n m) = refl

unification_plain : (P : Program) (S : VarName → Option Tree) (l r : Tree) (a : Answer) → UnificationAnswers P l r S a → IsPlain a
unification_plain P S l r a (UnificationAnswers.solves h) = tt
unification_plain P S l r a (UnificationAnswers.clashes c) = refl
unification_plain P S l r a (UnificationAnswers.cycles c) = refl

assignment_plain : (P : Program) (S : VarName → Option Tree) (t : Tree) (b : Expression) (a : Answer) → AssignmentAnswers P t b S a → IsPlain a
assignment_plain P S t b a (AssignmentAnswers.waits xs h) = refl
assignment_plain P S t b a (AssignmentAnswers.has_no_value h) = refl
assignment_plain P S t b a (AssignmentAnswers.clashes v h c) = refl
assignment_plain P S t b a (AssignmentAnswers.assigns h) = tt

goal_plain : (P : Program) (S : VarName → Option Tree) (b : Goal) (a : Answer) → is_stream b ≡ false → Attempts P S (Some b) None a → IsPlain a
goal_plain P S (call f ts) a n h = call_plain P S f ts a h
goal_plain P S (unify l r) a n h = unification_plain P S l r a h
goal_plain P S (assign t e) a n h = assignment_plain P S t e a h
goal_plain P S (stream k x) a n h = cc

-- a goal fails for such a refusal
failed_for : (P : Program) (S : VarName → Option Tree) (b : Goal) (s : Status) (f : Fault) → s ≡ failed f → HasStatus P S b s → IsBare f
failed_for P S b s f e (is_ready a d p) = cc
failed_for P S b s f e (is_waiting p m) = cc
failed_for P S b s f e (is_failed {f = g} n p d) =
    let same : g ≡ f = cc in
    subst IsBare same (goal_plain P S b (refused g) n p)
failed_for P S b s f e (is_stream_goal n) = cc

-- the status of a goal that is stuck so
abbrev status_from : Option Stuck → Status
status_from None = ready
status_from (Some (Waiting xs)) = waiting xs
status_from (Some (Failed n)) = failed (fault_at n (0, (0, [])))

back : (P : Program) (S : VarName → Option Tree) (b : Goal) (s : Status) → HasStatus P S b s → IsStuck s → status_from (stuck_of s) ≡ s
back P S b ready h i = absurd i
back P S b (waiting xs) h i = refl
back P S b (failed f) h i = ap (λ t. failed (fault_at (fault_number f) t)) (sym (failed_for P S b (failed f) f refl h)) ∙ ap failed (fault_back f)
back P S b streaming h i = absurd i

-- what is stuck is stuck in some way
pub some_stuck : (s : Status) → IsStuck s → None ≡ stuck_of s → ⊥
some_stuck ready i e = i
some_stuck (waiting xs) i e = cc
some_stuck (failed f) i e = cc
some_stuck streaming i e = i

stuck_too : (s t : Status) → stuck_of s ≡ stuck_of t → IsStuck t → IsStuck s
stuck_too ready t e i = some_stuck t i e
stuck_too (waiting xs) t e i = tt
stuck_too (failed f) t e i = tt
stuck_too streaming t e i = some_stuck t i e

-- statuses of goals that are stuck in one way are one
pub stuck_once : (P Q : Program) (S T : VarName → Option Tree) (a b : Goal) (s t : Status) → HasStatus P S a s → HasStatus Q T b t → IsStuck t → stuck_of s ≡ stuck_of t → s ≡ t
stuck_once P Q S T a b s t h k i e = sym (back P S a s h (stuck_too s t e i)) ∙ ap status_from e ∙ back Q T b t k i
