-- A goal has one status, and it is decided by what the goal looks at.
use Rattle.ghc_hooks.proofs.Words.{◌≡◌, true, refl, sym, ap, inr, Some, None, List, ℕ, Option, VarName, Tree, variable, In, Goal, call, unify, assign, stream, Passes, not_both as one_test, apart as not_both, same_fault, one_set, set_of, Program, is_stream, Variables, IsSetOf, Fault, Answer, proposes, refused, SomeWaitsFor, Attempts, attempt_once, attempt_there, leaf_variables, GoalLooksAt, leads_there, leads_back, leaf_reaches, passes_reaches, looks_back, waits_there, Awaits, waiting, failed, is_ready, is_waiting, is_failed, is_stream_goal, StatusIsOne, StatusIsOfWhatIsLookedAt}

-- an attempt at a stream goal answers that there is none
no_stream : (P : Program) (S : VarName → Option Tree) (g : Goal) (a : Answer) → is_stream g ≡ true → Attempts P S (Some g) None a → a ≡ refused Fault.NoGoal
no_stream P S (call f ts) a e t = cc
no_stream P S (unify l r) a e t = cc
no_stream P S (assign l b) a e t = cc
no_stream P S (stream k x) a e t = t

pub status_once : StatusIsOne
status_once P S g s t c (is_ready a e p) (is_ready b f q) = refl
status_once P S g s t c (is_ready a e p) (is_waiting q m) = absurd (not_both (attempt_once P S (Some g) None _ _ c p q))
status_once P S g s t c (is_ready a e p) (is_failed n q m) = absurd (not_both (attempt_once P S (Some g) None _ _ c p q))
status_once P S g s t c (is_ready a e p) (is_stream_goal n) = absurd (not_both (no_stream P S g _ n p))
status_once P S g s t c (is_waiting p m) (is_ready b f q) = absurd (not_both (attempt_once P S (Some g) None _ _ c q p))
status_once P S g s t c (is_waiting p m) (is_waiting q n) = ap waiting (one_set _ _ _ _ m n (λ x h. h) (λ x h. h))
status_once P S g s t c (is_waiting p m) (is_failed n q d) = absurd (d (same_fault (attempt_once P S (Some g) None _ _ c q p)))
status_once P S g s t c (is_waiting p m) (is_stream_goal n) = let clash = no_stream P S g (refused Fault.Waits) n p in cc
status_once P S g s t c (is_failed n p d) (is_ready b f q) = absurd (not_both (attempt_once P S (Some g) None _ _ c q p))
status_once P S g s t c (is_failed n p d) (is_waiting q m) = absurd (d (same_fault (attempt_once P S (Some g) None _ _ c p q)))
status_once P S g s t c (is_failed n p d) (is_failed m q e) = ap failed (same_fault (attempt_once P S (Some g) None _ _ c p q))
status_once P S g s t c (is_failed n p d) (is_stream_goal m) = absurd (one_test (is_stream g) n m)
status_once P S g s t c (is_stream_goal n) (is_ready b f q) = absurd (not_both (no_stream P S g _ n q))
status_once P S g s t c (is_stream_goal n) (is_waiting q m) = let clash = no_stream P S g (refused Fault.Waits) n q in cc
status_once P S g s t c (is_stream_goal n) (is_failed m q d) = absurd (one_test (is_stream g) m n)
status_once P S g s t c (is_stream_goal n) (is_stream_goal m) = refl

-- stores that agree on what a goal looks at
module _ (P : Program) (S S' : VarName → Option Tree) where
  call_awaits : (f : List ℕ) (ts : List Tree) → ((x : VarName) → GoalLooksAt P S (call f ts) x → S' x ≡ S x) → (x : VarName) → SomeWaitsFor P f ts S x → SomeWaitsFor P f ts S' x
  call_awaits f ts h x w = (w.0, w.1, w.2, w.3, waits_there w.1 ts S S' (λ y l. h y (w.0, w.1, w.2, w.3, l)) x w.4)

call_looks_back : (P : Program) (S S' : VarName → Option Tree) (f : List ℕ) (ts : List Tree) → ((x : VarName) → GoalLooksAt P S (call f ts) x → S' x ≡ S x) → (x : VarName) → GoalLooksAt P S' (call f ts) x → S x ≡ S' x
call_looks_back P S S' f ts h x l = sym (h x (l.0, l.1, l.2, l.3, looks_back l.1 ts S S' (λ y m. h y (l.0, l.1, l.2, l.3, m)) x l.4))

-- a goal awaits the same variables
awaits_there : (P : Program) (S S' : VarName → Option Tree) (g : Goal) → ((x : VarName) → GoalLooksAt P S g x → S' x ≡ S x) → (xs : Variables) → IsSetOf xs (Awaits P S g) → IsSetOf xs (Awaits P S' g)
awaits_there P S S' (call f ts) h xs m =
    set_of xs (Awaits P S (call f ts)) (Awaits P S' (call f ts)) (call_awaits P S S' f ts h) (call_awaits P S' S f ts (call_looks_back P S S' f ts h)) m
awaits_there P S S' (unify l r) h xs m = m
awaits_there P S S' (assign t b) h xs m =
    let agree = λ (y : VarName) (i : In y (leaf_variables b)) (x : VarName) (p : Passes S (variable y) x).
    h x (inr (leaf_reaches b y x i (passes_reaches p.1))) in
    set_of xs (Awaits P S (assign t b)) (Awaits P S' (assign t b))
    (λ x w. (w.0, w.1, (w.2.0, leads_there w.2.1 (agree w.0 w.1))))
    (λ x w. (w.0, w.1, (w.2.0, leads_back w.2.1 (agree w.0 w.1)))) m
awaits_there P S S' (stream k s) h xs m = m

pub status_there : StatusIsOfWhatIsLookedAt
status_there P S S' g s (is_ready a e p) agree = is_ready a e (attempt_there P S S' g None (proposes a e) p (λ x l. sym (agree x l)))
status_there P S S' g s (is_waiting {xs = xs} p m) agree =
    is_waiting (attempt_there P S S' g None (refused Fault.Waits) p (λ x l. sym (agree x l))) (awaits_there P S S' g (λ x l. sym (agree x l)) xs m)
status_there P S S' g s (is_failed {f = f} n p d) agree = is_failed n (attempt_there P S S' g None (refused f) p (λ x l. sym (agree x l))) d
status_there P S S' g s (is_stream_goal n) agree = is_stream_goal n
