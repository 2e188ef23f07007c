-- What parse trees within the limits say is within them too.
use Rattle.ghc_reader.proofs.Words.{◌≡◌, ◌≢◌, ℕ, ◌+◌, ◌<◌, ◌≤◌, List, [], ◌∷◌, ◌++◌, length, take, filter, Bool, true, Option, Some, None, refl, sym, ap, ◌∙◌, subst, inl, inr, arith, slice_get, append_assoc, ◌||◌, not, MatchOption, bytes_eq, list_any, append-nil, length_push, length-map, length-take-le, length-filter_both, list_any-append, bytes_eq-Decides, nat_tests, VarName, In, SourceGoal, goal_view, goal_views, Trees, none, some, Goal, count, largest, widest_goal, widest_goals, widest_clause, goals_of_clause, names_of_goals, names_of_clause, is_unnamed, variables, first_exceeded, of_program, of_query, WrittenClause, WrittenQuery, is_stream, IsWithinLimits, IsWellWritten, AreWellWritten, IsWellAsked, Names, blank, IsCalled, AreNamed, Each, SaysAll, SaysGoal, SaysAsked, SaysClause, SaysQuery, is_true, doing, tail_of, IsFresh, WrittenAsk, IsNaming, SaysAsk, IsWellPut, false≢true}
use Rattle.ghc_term.specs.Tree as term
use Rattle.ghc_term.specs.Goal as goal
use Rattle.ghc_reader.specs.Source.{call, unify, assign, Clause}
use Rattle.ghc_reader.proofs.Counting.{and_one, one_more}
use Rattle.ghc_reader.proofs.Names.{get_left, get_last}
use Rattle.ghc_reader.proofs.Numbered.{test_cases}
use Rattle.ghc_reader.proofs.Streams.{no_streams}
use Rattle.ghc_reader.proofs.NamesIn.{clause_called, query_called, asked_called}
use Rattle.ghc_reader.proofs.OneNaming.{MeetsCalled, MeetsEach, named_are_met}

-- ---- variables

-- Each of the names that were met, but `_`, is that of a variable.
abbrev AreKnown : List (List ℕ) → Names → Type 0
AreKnown met names = (v : List ℕ) → list_any (bytes_eq v) met ≡ true → v ≢ blank → (i : ℕ) × (slice_get names i ≡ Some v)

-- The names that were met are known, and the variables are no more than are counted in them.
record IsCovered (met : List (List ℕ)) (names : Names) : Type 0 where
  known : AreKnown met names
  few : length names ≤ variables met

at_most_one_more : (b : Bool) (n : ℕ) → n ≤ and_one b n
at_most_one_more b n = grind arith

known_more : (met : List (List ℕ)) (v : List ℕ) (names later : Names) → AreKnown met names → ((i : ℕ) (w : List ℕ) → slice_get names i ≡ Some w → slice_get later i ≡ Some w)
    → ((i : ℕ) × (slice_get later i ≡ Some v)) → AreKnown (met ++ v ∷ []) later
known_more met v names later known still here w found named = elim (test_cases (list_any (bytes_eq w) met)) [
  | inl old ↦ let k = known w old named in (k.0, still k.0 w k.1)
  | inr absent ↦
      let same = (bytes_eq-Decides w v).0 (grind (arith, sym (list_any-append (bytes_eq w) met (v ∷ [])) ∙ found, absent)) in
      (here.0, here.1 ∙ ap Some (sym same))
]

counts_once : (met : List (List ℕ)) (v : List ℕ) (names : Names) → AreKnown met names → IsFresh names v → (is_unnamed v || not (list_any (bytes_eq v) met)) ≡ true
counts_once met v names known fresh = elim (test_cases (is_unnamed v)) [
  | inl unnamed ↦ ap (λ b. b || not (list_any (bytes_eq v) met)) unnamed
  | inr other ↦ ap (λ b. b || not (list_any (bytes_eq v) met)) other ∙ elim (test_cases (list_any (bytes_eq v) met)) [
    | inl found ↦
        let named : v ≢ blank = λ e. let yes = (bytes_eq-Decides v blank).1 e in cc in
        let k = known v found named in
        absurd (named (fresh k.0 k.1))
    | inr absent ↦ ap not absent
  ]
]

covered_more : (met : List (List ℕ)) (v : List ℕ) (x : VarName) (names later : Names) → IsCovered met names → MeetsCalled names v x later → IsCovered (met ++ v ∷ []) later
covered_more met v x names later c (inl h) = record {
  known = known_more met v names later c.known (λ i w e. ap (λ l. slice_get l i) h.4 ∙ e) (h.0, ap (λ l. slice_get l h.0) h.4 ∙ h.1);
  few = omega (arith, c.few, ap length h.4, one_more met v, at_most_one_more (is_unnamed v || not (list_any (bytes_eq v) met)) (variables met));
}
covered_more met v x names later c (inr h) =
    let more : variables (met ++ v ∷ []) ≡ variables met + 1 = one_more met v ∙ ap (λ b. and_one b (variables met)) (counts_once met v names c.known h.0) in
    record {
      known = known_more met v names later c.known (λ i w e. ap (λ l. slice_get l i) h.2 ∙ get_left names (v ∷ []) i w e) (length names, ap (λ l. slice_get l (length names)) h.2 ∙ get_last names v);
      few = omega (arith, c.few, ap length h.2, length_push names v, more);
    }

covered : (vs met : List (List ℕ)) (xs : List VarName) (names later : Names) → IsCovered met names → MeetsEach names vs xs later → length later ≤ variables (met ++ vs)
covered [] met xs names later c m = omega (arith, c.few, ap length m.1, ap variables (append-nil met))
covered (v ∷ vs) met xs names later c m =
    subst (λ l. length later ≤ variables l) (append_assoc met (v ∷ []) vs) (covered vs (met ++ v ∷ []) m.1 m.2 later (covered_more met v m.0 names m.2 c m.4) m.5)

-- A text has no more variables than are counted in its names.
few_names : (vs : List (List ℕ)) (xs : List VarName) (names : Names) → AreNamed names xs → Each (IsCalled names) vs xs → length names ≤ variables vs
few_names vs xs names n h = covered vs [] xs [] names (record { known = λ v e named. absurd (false≢true e); few = omega arith }) (named_are_met vs xs names n h)

-- ---- goals

each_length : {X Y : Type 0} (R : X → Y → Type 0) (xs : List X) (ys : List Y) → Each R xs ys → length ys ≡ length xs
each_length R [] [] h = refl
each_length R (x ∷ xs) (y ∷ ys) h = omega (arith, each_length R xs ys h.1)
each_length R xs ys h = absurd h

doing_length : (gs : List Goal) → length (doing gs) ≤ length gs
doing_length gs = omega (arith, length-filter_both (λ g. not (is_true g)) (λ g. not (not (is_true g))) (λ g. refl) gs)

-- There is room for one more stream while a goal is left.
pub streams_below : (goals : List SourceGoal) (i n : ℕ) (names : Names) (us : List goal.Goal) → i < length goals → length goals ≤ 1000 → Each (SaysAsked names) (doing (goal_views (take i goals))) us → n ≡ length (filter is_stream us) → n < 1000
streams_below goals i n names us less few says counted =
    let so_far = goal_views (take i goals) in
    let passed = length-take-le i goals (omega (arith, less)) in
    omega (arith, counted, length-filter_both is_stream (λ u. not (is_stream u)) (λ u. refl) us, each_length (SaysAsked names) (doing so_far) us says, doing_length so_far, length-map (take i goals) goal_view, passed, less, few)

doing_widest : (gs : List Goal) → widest_goals (doing gs) ≤ widest_goals gs
doing_widest [] = omega arith
doing_widest (g ∷ gs) = grind (arith, doing_widest gs)

-- ---- arguments

said_count : (ts : Trees) (names : Names) (us : List term.Tree) → SaysAll names ts us → length us ≡ count ts
said_count none names us h = ap length h
said_count (some t ts) names us h = omega (arith, ap length h.2, said_count ts names h.1 h.4)

-- no call has more arguments than what it says
said_width : (g : Goal) (names : Names) (f : List ℕ) (us : List term.Tree) → SaysGoal names g (goal.call f us) → length us ≤ widest_goal g
said_width (call c) names f us h = let same : us ≡ h.0 = cc in omega (arith, ap length same, said_count c.arguments names h.0 h.2)
said_width (unify s t) names f us h = cc
said_width (assign v e) names f us h = cc

asked_width : (g : Goal) (names : Names) (f : List ℕ) (us : List term.Tree) → SaysAsked names g (goal.call f us) → length us ≤ widest_goal g
asked_width g names f us h = by_tail (tail_of g) h
  where
    by_tail : (o : Option (List ℕ)) → MatchOption o (SaysGoal names g (goal.call f us)) (λ v. (k : ℕ) × (x : VarName) × (goal.call f us ≡ goal.stream k x) × IsCalled names v x) → length us ≤ widest_goal g
    by_tail None h = said_width g names f us h
    by_tail (Some v) h = cc

-- ---- the limits

limits_of_program : (cs : List Clause) → first_exceeded (of_program cs) ≡ None
    → (length cs ≤ 10000) × (largest widest_clause cs ≤ 255) × (largest goals_of_clause cs ≤ 1000) × (largest (λ c. variables (names_of_clause c)) cs ≤ 1000)
limits_of_program cs within = grind (arith, nat_tests)

pub limits_of_query : (gs : List Goal) → first_exceeded (of_query gs) ≡ None
    → (widest_goals gs ≤ 255) × (length gs ≤ 1000) × (variables (names_of_goals gs) ≤ 1000)
limits_of_query gs within = grind (arith, nat_tests)

largest_has : {X : Type 0} (f : X → ℕ) (xs : List X) (x : X) → In x xs → f x ≤ largest f xs
largest_has f [] x i = absurd i
largest_has f (y ∷ xs) x (inl is) = omega (arith, ap f is)
largest_has f (y ∷ xs) x (inr i) = omega (arith, largest_has f xs x i)

each_has : {X Y : Type 0} (R : X → Y → Type 0) (xs : List X) (ys : List Y) (y : Y) → Each R xs ys → In y ys → (x : X) × In x xs × R x y
each_has R [] [] y h i = absurd i
each_has R (x ∷ xs) (z ∷ ys) y h (inl is) = (x, inl refl, subst (R x) (sym is) h.0)
each_has R (x ∷ xs) (z ∷ ys) y h (inr i) = let r = each_has R xs ys y h.1 i in (r.0, inr r.1, r.2)
each_has R xs ys y h i = absurd h

each_width : (R : Goal → goal.Goal → Type 0) → ((g : Goal) (f : List ℕ) (us : List term.Tree) → R g (goal.call f us) → length us ≤ widest_goal g)
    → (gs : List Goal) (ws : List goal.Goal) (f : List ℕ) (us : List term.Tree)
    → Each R gs ws → In (goal.call f us) ws → length us ≤ widest_goals gs
each_width R one gs ws f us h i = let r = each_has R gs ws (goal.call f us) h i in omega (arith, one r.0 f us r.2, largest_has widest_goal gs r.0 r.1)

goals_within : (R : Goal → goal.Goal → Type 0) → ((g : Goal) (f : List ℕ) (us : List term.Tree) → R g (goal.call f us) → length us ≤ widest_goal g) → (gs : List Goal) (ws : List goal.Goal) (n : ℕ)
    → Each R (doing gs) ws → length gs ≤ 1000 → n ≤ 1000 → widest_goals gs ≤ 255 → IsWithinLimits ws n
goals_within R one gs ws n h few_goals few_variables narrow = record {
  goals = omega (arith, each_length R (doing gs) ws h, doing_length gs, few_goals);
  variables = few_variables;
  arguments = λ f us i. omega (arith, each_width R one (doing gs) ws f us h i, doing_widest gs, narrow);
}

clause_well_written : (c : Clause) (w : WrittenClause) → SaysClause c w → goals_of_clause c ≤ 1000 → variables (names_of_clause c) ≤ 1000 → widest_clause c ≤ 255 → IsWellWritten w
clause_well_written c w s few_goals few_variables narrow =
    let names = few_names (names_of_clause c) _ w.variables s.variables (clause_called c w s) in
    record {
      numbered = s.variables.numbered;
      named = s.variables.named;
      closed = no_streams (doing c.body) w.variables w.body s.body;
      narrow = omega (arith, said_count c.head.arguments w.variables w.head s.head, narrow);
      limited = goals_within (SaysGoal w.variables) (λ g f us h. said_width g w.variables f us h) c.body w.body (length w.variables) s.body (omega (arith, few_goals)) (omega (arith, names, few_variables)) (omega (arith, narrow));
    }

pub program_well_written : (cs : List Clause) (ws : List WrittenClause) → first_exceeded (of_program cs) ≡ None → Each SaysClause cs ws → AreWellWritten ws
program_well_written cs ws within says =
    let (few, narrow, few_goals, few_names) = limits_of_program cs within in
    record {
      few = omega (arith, each_length SaysClause cs ws says, few);
      each = λ w i.
          let r = each_has SaysClause cs ws w says i in
          clause_well_written r.0 w r.2 (omega (arith, largest_has goals_of_clause cs r.0 r.1, few_goals)) (omega (arith, largest_has (λ c. variables (names_of_clause c)) cs r.0 r.1, few_names)) (omega (arith, largest_has widest_clause cs r.0 r.1, narrow));
    }

-- The goals of a query are no more than it may have.
pub few_asked : (goals : List SourceGoal) → first_exceeded (of_query (goal_views goals)) ≡ None → length goals ≤ 1000
few_asked goals within = omega (arith, (limits_of_query (goal_views goals) within).1, length-map goals goal_view)

pub query_well_asked : (gs : List Goal) (q : WrittenQuery) → first_exceeded (of_query gs) ≡ None → SaysQuery gs q → IsWellAsked q
query_well_asked gs q within s =
    let (narrow, few_goals, few_variables) = limits_of_query gs within in
    let names = few_names (names_of_goals gs) _ q.variables s.variables (query_called gs q s) in
    record {
      numbered = s.variables.numbered;
      named = s.variables.named;
      apart = s.variables.apart;
      streams = s.streams;
      limited = goals_within (SaysAsked q.variables) (λ g f us h. asked_width g q.variables f us h) gs q.goals (length q.variables) s.goals few_goals (omega (arith, names, few_variables)) narrow;
    }

pub ask_well_put : (query : Names) (gs : List Goal) (a : WrittenAsk) → first_exceeded (of_query gs) ≡ None → SaysAsk query gs a → IsWellPut a
ask_well_put query gs a within s =
    let (narrow, few_goals, few_variables) = limits_of_query gs within in
    let called = asked_called (IsCalled s.names) gs a.goals s.goals in
    let few = few_names (names_of_goals gs) _ s.names s.variables called in
    let told = each_length (IsNaming query) s.names a.named s.named in
    record {
      numbered = s.variables.numbered;
      told = told ∙ s.variables.named;
      plain = no_streams (doing gs) s.names a.goals s.goals;
      limited = goals_within (SaysGoal s.names) (λ g f us h. said_width g s.names f us h) gs a.goals (length a.named) s.goals few_goals (omega (arith, told, few, few_variables)) narrow;
    }
