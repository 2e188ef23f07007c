-- The parts of a face, as far as they have been found.
use Rattle.ghc_hooks.proofs.Words.{◌≡◌, ℕ, ◌+◌, ◌<◌, List, [], ◌∷◌, map, length, get_or, take, refl, sym, ap, subst, ◌∙◌, inl, inr, ◌⊎◌, ◌↔◌, Option, Some, None, IsTrue, IfSome, IfNone, option_copied, option_map, nat_cmp, GoalName, VarName, IsAcyclic, Goal, call, In, Variables, StoreValue, value_at, Tree, Clause, Program, IsClause, IsFor, AreNumbersFor, Outcome, HasOutcome, Tried, outcome_of, outcomes_exclude, clause_once, in_get, not_both, goal_cmp, Goals, goal_total, goal_antisymmetric, Kind, Status, waiting, HasStatus, GoalNames, StandsAs, ClauseSays, pair_cmp, StatusesByGoal, HookPairs, OutcomesByClause, SaysToCall, HaveOnly, HaveBesides, HooksBesides, TellsOutcomes, TellsStatuses, WaitsBy, TellsHooks, IsOfKind, TellsPool, one_value, arith}
use Rattle.std.proofs.Common.{Bor}
use Rattle.std.specs.FinMap as finite
use Rattle.std.specs.FinSet as set
use Rattle.ghc_hooks.proofs.Statuses.{status_once}
use Rattle.ghc_hooks.proofs.Pairs.{hook_total, hook_antisymmetric, clause_total, clause_antisymmetric}
use Rattle.ghc_hooks.proofs.Looking.{member_put, goal_put}
use Rattle.ghc_hooks.proofs.LookingAll.{so_far, earlier, latest}
use Rattle.ghc_hooks.proofs.Finding.{told_next, told_skip, put_tells}

-- besides the old outcomes there are those of the clauses of these numbers
abbrev pub OutcomesBesides : Program → StoreValue → List ℕ → List Tree → GoalName → OutcomesByClause → List ℕ → OutcomesByClause → Type 0
OutcomesBesides P s f ts g old ks new = HaveBesides old g (λ k o. In k ks × SaysToCall P s f ts k o) new

pub none_there : {X : Type 0} {o : Option X} {x : X} → o ≡ None → o ≡ Some x → ⊥
none_there p q = cc

-- one goal more
module _ (gs : List GoalName) (i : ℕ) (d : GoalName) (within : i < length gs) where
  module _ (P : Program) (G : Goals) (s : StoreValue) where
    pub status_put : IsAcyclic (value_at s) → (m new : StatusesByGoal) (b : Goal) (v : Status) → TellsStatuses P G s (take i gs) m → finite.get G (get_or gs i d) ≡ Some b
        → HasStatus P (value_at s) b v → new ≡ finite.insert m (get_or gs i d) v → TellsStatuses P G s (take (i + 1) gs) new
    status_put acyclic m new b v before there has is g t =
        let n = get_or gs i d in
        let only = λ (u : Status) (h : StandsAs P G s n u).
        status_once P (value_at s) b u v acyclic (subst (λ z. HasStatus P (value_at s) z u) (one_value _ _ (sym h.1 ∙ there)) h.2) has in
        let step = put_tells goal_total goal_antisymmetric m n v (StandsAs P G s) (b, there, has) only (λ u e. ((before n u).0 e).1) g t in
        told_next (StandsAs P G s g t) gs i d within g (before g t) (subst (λ z. (finite.get z g ≡ Some t) ↔ ((finite.get m g ≡ Some t) ⊎ ((g ≡ n) × StandsAs P G s g t))) (sym is) step)

    pub status_passed : (m : StatusesByGoal) → TellsStatuses P G s (take i gs) m → finite.get G (get_or gs i d) ≡ None → TellsStatuses P G s (take (i + 1) gs) m
    status_passed m before none g t = told_skip (StandsAs P G s g t) gs i d within g (before g t) (λ e h. none_there none (ap (finite.get G) (sym e) ∙ h.1))

    pub outcomes_more : (m new : OutcomesByClause) → TellsOutcomes P G s (take i gs) m
        → HaveBesides m (get_or gs i d) (ClauseSays P G s (get_or gs i d)) new
        → TellsOutcomes P G s (take (i + 1) gs) new
    outcomes_more m new before step g k o = told_next (ClauseSays P G s g k o) gs i d within g (before g k o) (grind (arith, step g k o))

  module _ (m : StatusesByGoal) where
    pub hooked : (hooks new : HookPairs) (xs : Variables) (ys : List VarName) → TellsHooks m (take i gs) hooks → finite.get m (get_or gs i d) ≡ Some (waiting xs)
        → ((x : VarName) → In x ys ↔ IsTrue (set.contains xs x)) → HooksBesides hooks ys (get_or gs i d) new → TellsHooks m (take (i + 1) gs) new
    hooked hooks new xs ys before there listed step x g = told_next (WaitsBy m x g) gs i d within g (before x g) (
      λ t. elim ((step x g).0 t) [ inl a ↦ inl a | inr p ↦ inr (p.1, (xs, ap (finite.get m) p.1 ∙ there, (listed x).0 p.0)) ],
      λ t. (step x g).1 (elim t [
        | inl a ↦ inl a
        | inr p ↦
            let same : Some (waiting p.1.0) ≡ Some (waiting xs) = sym p.1.1 ∙ ap (finite.get m) p.0 ∙ there in
            let is : p.1.0 ≡ xs = cc in
            inr ((listed x).1 (subst (λ z. IsTrue (set.contains z x)) is p.1.2), p.0)
      ]),
    )

    pub unhooked : (hooks : HookPairs) → TellsHooks m (take i gs) hooks → ¬ ((xs : Variables) × (finite.get m (get_or gs i d) ≡ Some (waiting xs))) → TellsHooks m (take (i + 1) gs) hooks
    unhooked hooks before none x g = told_skip (WaitsBy m x g) gs i d within g (before x g) (λ e w. none (w.0, ap (finite.get m) (sym e) ∙ w.1))

    pub pooled : (kind : Kind) (pool new : GoalNames) → TellsPool m kind (take i gs) pool → IsOfKind m kind (get_or gs i d) → new ≡ set.insert pool (get_or gs i d) → TellsPool m kind (take (i + 1) gs) new
    pooled kind pool new before has is g = told_next (IsOfKind m kind g) gs i d within g (before g) (grind (arith, goal_put pool (get_or gs i d) g))

    pub not_pooled : (kind : Kind) (pool : GoalNames) → TellsPool m kind (take i gs) pool → ¬ IsOfKind m kind (get_or gs i d) → TellsPool m kind (take (i + 1) gs) pool
    not_pooled kind pool before none g = told_skip (IsOfKind m kind g) gs i d within g (before g) (λ e k. none (subst (IsOfKind m kind) e k))

-- one variable more
module _ (old now new : HookPairs) (xs : List VarName) (i : ℕ) (d : VarName) (within : i < length xs) (g : GoalName) where
  pub hooks_next : HooksBesides old (take i xs) g now → new ≡ set.insert now (get_or xs i d, g) → HooksBesides old (take (i + 1) xs) g new
  hooks_next before is y h =
      let put = member_put hook_total hook_antisymmetric now (get_or xs i d, g) (y, h) in
      let here : set.contains new (y, h) ≡ set.contains (set.insert now (get_or xs i d, g)) (y, h) = ap (λ z. set.contains z (y, h)) is in
      let parts : ◌≡◌ {A = VarName × GoalName} (y, h) (get_or xs i d, g) → (y ≡ get_or xs i d) × (h ≡ g) = λ e. (ap (λ p. p.0) e, ap (λ p. p.1) e) in
      let pair : y ≡ get_or xs i d → h ≡ g → ◌≡◌ {A = VarName × GoalName} (y, h) (get_or xs i d, g) = λ e p j. (e j, p j) in
      grind (arith, before y h, so_far xs i d within y, earlier xs i d within y, latest xs i d within y)

-- one clause more
module _ (P : Program) (s : StoreValue) (f : List ℕ) (ts : List Tree) (g : GoalName) where
  says_once : (k : ℕ) (a b : Outcome) → SaysToCall P s f ts k a → SaysToCall P s f ts k b → a ≡ b
  says_once k a b p q = outcomes_exclude p.0 ts (value_at s) a b p.3 (subst (λ c. HasOutcome c ts (value_at s) b) (clause_once P q.1 p.1) q.3)

  module _ (old now new : OutcomesByClause) (fits : HaveOnly old g (SaysToCall P s f ts)) (ks : List ℕ) where
    pub outcomes_next : (i : ℕ) → i < length ks → OutcomesBesides P s f ts g old (take i ks) now → (v : Outcome) → SaysToCall P s f ts (get_or ks i 0) v
        → new ≡ finite.insert now (g, get_or ks i 0) v → OutcomesBesides P s f ts g old (take (i + 1) ks) new
    outcomes_next i within before v says is h k o =
        let n = get_or ks i 0 in
        let Q = λ (p : GoalName × ℕ) (x : Outcome). SaysToCall P s f ts p.1 x in
        let told = λ (x : Outcome) (e : finite.get now (g, n) ≡ Some x). elim ((before g n x).0 e) as (λ _. SaysToCall P s f ts n x) [ inl a ↦ fits n x a | inr p ↦ p.1.1 ] in
        let put = put_tells clause_total clause_antisymmetric now (g, n) v Q says (λ x q. says_once n x v q says) told (h, k) o in
        let here : finite.get new (h, k) ≡ finite.get (finite.insert now (g, n) v) (h, k) = ap (λ z. finite.get z (h, k)) is in
        let parts : ◌≡◌ {A = GoalName × ℕ} (h, k) (g, n) → (h ≡ g) × (k ≡ n) = λ e. (ap (λ p. p.0) e, ap (λ p. p.1) e) in
        let pair : h ≡ g → k ≡ n → ◌≡◌ {A = GoalName × ℕ} (h, k) (g, n) = λ e p j. (e j, p j) in
        grind (arith, before h k o, so_far ks i 0 within k, earlier ks i 0 within k, latest ks i 0 within k)

    pub all_outcomes : AreNumbersFor P f (length ts) ks → OutcomesBesides P s f ts g old ks now
        → HaveBesides old g (SaysToCall P s f ts) now
    all_outcomes numbers all h k o =
        let there : SaysToCall P s f ts k o → In k ks = λ p. (numbers.«exactly» k).1 (p.0, p.1, p.2.0, p.2.1) in
        grind (arith, all h k o)

-- a clause of one of the numbers for a call is for it
pub number_says : (P : Program) (s : StoreValue) (f : List ℕ) (ts : List Tree) (ks : List ℕ) → AreNumbersFor P f (length ts) ks → (i : ℕ) → i < length ks → (c : Clause) → IsClause P (get_or ks i 0) c
    → (o : Outcome) → HasOutcome c ts (value_at s) o → SaysToCall P s f ts (get_or ks i 0) o
number_says P s f ts ks numbers i within c is o has =
    let n = (numbers.«exactly» (get_or ks i 0)).0 (in_get ks i 0 within) in
    let same : n.0 ≡ c = clause_once P n.1 is in
    (c, is, subst (IsFor f ts) same (n.2, n.3), has)

-- at the start there is nothing
pub no_outcomes : (P : Program) (G : Goals) (s : StoreValue) (m : OutcomesByClause) → m ≡ finite.empty → TellsOutcomes P G s [] m
no_outcomes P G s m none g k o = (λ e. absurd (none_there (ap (λ z. finite.get z (g, k)) none ∙ finite.get-empty (pair_cmp goal_cmp nat_cmp) (g, k)) e), λ p. absurd p.0)

pub no_statuses : (P : Program) (G : Goals) (s : StoreValue) (m : StatusesByGoal) → m ≡ finite.empty → TellsStatuses P G s [] m
no_statuses P G s m none g t = (λ e. absurd (none_there (ap (λ z. finite.get z g) none ∙ finite.get-empty goal_cmp g) e), λ p. absurd p.0)

pub no_hooks : (m : StatusesByGoal) (hooks : HookPairs) → hooks ≡ set.empty → TellsHooks m [] hooks
no_hooks m hooks none x g = grind (arith, not_both, set.contains-empty)

pub no_pool : (m : StatusesByGoal) (kind : Kind) (pool : GoalNames) → pool ≡ set.empty → TellsPool m kind [] pool
no_pool m kind pool none g = (λ e. absurd (not_both (set.contains pool g) (ap (λ z. set.contains z g) none ∙ set.contains-empty goal_cmp g) e), λ p. absurd p.0)

-- what is said to a call is said to the goal that is this call
pub call_says : (P : Program) (G : Goals) (s : StoreValue) (g : GoalName) (f : List ℕ) (ts : List Tree) → finite.get G g ≡ Some (call f ts) → (k : ℕ) (o : Outcome) → SaysToCall P s f ts k o ↔ ClauseSays P G s g k o
call_says P G s g f ts there k o = grind arith

pub call_told : (P : Program) (G : Goals) (s : StoreValue) (g : GoalName) (f : List ℕ) (ts : List Tree) → finite.get G g ≡ Some (call f ts) → (old new : OutcomesByClause)
    → HaveBesides old g (SaysToCall P s f ts) new
    → HaveBesides old g (ClauseSays P G s g) new
call_told P G s g f ts there old new told h k o = grind (arith, told h k o, call_says P G s g f ts there k o)

-- what an entry of a table tells
pub tells_some : (r : Option (Bor Tried)) (o : Option Outcome) → option_map outcome_of (option_copied r) ≡ o → IfSome r (λ t. o ≡ Some (outcome_of t.now))
tells_some None o e = tt
tells_some (Some t) o e = sym e

pub tells_none : (r : Option (Bor Tried)) (o : Option Outcome) → option_map outcome_of (option_copied r) ≡ o → IfNone r (o ≡ None)
tells_none None o e = sym e
tells_none (Some t) o e = tt

-- the names under which goals are listed
pub names_kept : {K X Y : Type 0} (f : X → Y) (es : List (K × X)) → map (λ (e : K × X). e.0) es ≡ map (λ (e : K × Y). e.0) (map (λ (e : K × X). (e.0, f e.1)) es)
names_kept f [] = refl
names_kept f (e ∷ es) = ap (λ l. e.0 ∷ l) (names_kept f es)
