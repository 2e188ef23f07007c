-- Each attempt has an answer in an acyclic finite store.
use Rattle.ghc_fire.proofs.Words.{◌≡◌, ℕ, ◌<◌, suc, zero, ℤ, List, [], ◌∷◌, ◌++◌, length, refl, ap, ◌∙◌, subst, inl, inr, ◌⊎◌, arith, Option, Some, None, slice_get_within, VarName, Tree, integer, Expression, call, unify, assign, Leads, at_integer, IsAcyclic, StoreValue, value_at, leads_once, Decided, in_at, Clause, Program, IsClause, IsFor, IsProgram, Value, number, waits as waits_on, bad, HasValue, Accepts, WaitsFor, Outcome, refuses, accepts, HasOutcome, each_outcome, each_value, refuses_waits, accepts_refuses, accepts_waits, Meets, integers, nodes, Move, shared, both, Moves, stay, go, IsCycle, Cycles, Ending, solved, clash, cycle, HasEnding, each_ending, NoGoal, NoClause, Waits, NoMatch, Clash, Cycle, Arithmetic, ByClause as by_clause, Unified as unified, Assigned as assigned, Effect, HasEffect, no_step, Answer, proposes, refused, SomeAccepts, CallAnswers, ChoiceAnswers, UnificationAnswers, AssignmentAnswers, EachAttemptHasAnAnswer, from_integer}
use Rattle.ghc_match.specs.Match.{waits}
use Rattle.ghc_fire.proofs.EachEffect.{clause_decided, reduced, united, made_equal}
use Rattle.ghc_fire.proofs.Steps.{clause_once}

-- of the numbers below n, the least that has Q, or none has
least : (Q : ℕ → Type 0) → ((k : ℕ) → Decided (Q k)) → (n : ℕ) → ((k : ℕ) × Q k × ((j : ℕ) → j < k → ¬ Q j)) ⊎ ((j : ℕ) → j < n → ¬ Q j)
least Q d zero = inr (λ j h. absurd (omega arith))
least Q d (suc n) = elim (least Q d n) [
  | inl k ↦ inl k
  | inr none ↦ elim (d n) [
    | inl q ↦ inl (n, q, none)
    | inr m ↦ inr (λ j h q. elim (below j n h) [ inl l ↦ none j l q | inr e ↦ m (subst Q e q) ])
  ]
] where
  below : (j n : ℕ) → j < suc n → (j < n) ⊎ (j ≡ n)
  below j n h = grind arith

-- the right side of the first equation, or else the integer
abbrev second : ℤ → List (Tree × Tree) → Tree
second v [] = integer v
second v (e ∷ es) = e.1

-- an equation with an integer never comes to a cycle
nothing_after : {S T U : VarName → Option Tree} {es fs : List (Tree × Tree)} {bs : List (VarName × Tree)} {rs : List VarName} (t : Tree) (v : ℤ) → Move S T es U fs bs rs → es ≡ (t, integer v) ∷ [] → fs ≡ []
nothing_after {T = T} t v (both {r = r} {f = f} {b = b} {es = es} {new = new} p q apart m) e =
    let rest : es ≡ [] = cc in
    let side : r ≡ integer v = ap (second v) e in
    ap (λ l. new ++ l) rest ∙ alone m (ended (subst (λ w. Leads T w b f) side q))
  where
    ended : {x : Tree} {xs : List VarName} → Leads T (integer v) xs x → x ≡ integer v
    ended l = (leads_once l at_integer).1

    alone : {e x : Tree} {gs : List (Tree × Tree)} → Meets e x gs → x ≡ integer v → gs ++ [] ≡ []
    alone integers same = refl
    alone (nodes ps) same = cc
nothing_after t v _ e = cc

nothing_left : {S T U : VarName → Option Tree} {es fs : List (Tree × Tree)} {bs : List (VarName × Tree)} {rs : List VarName} → Moves S T es U fs bs rs → es ≡ [] → fs ≡ []
nothing_left stay e = e
nothing_left (go m ms) e = absurd (no_move m e)
  where
    no_move : {S T U : VarName → Option Tree} {es fs : List (Tree × Tree)} {bs : List (VarName × Tree)} {rs : List VarName} → Move S T es U fs bs rs → ¬ (es ≡ [])
    no_move (shared p q first) e = cc
    no_move _ e = cc

first_or_none : {S T U : VarName → Option Tree} {es fs : List (Tree × Tree)} {bs : List (VarName × Tree)} {rs : List VarName} (t : Tree) (v : ℤ) → Moves S T es U fs bs rs → es ≡ (t, integer v) ∷ [] → (fs ≡ (t, integer v) ∷ []) ⊎ (fs ≡ [])
first_or_none t v stay e = inl e
first_or_none t v (go m ms) e = inr (nothing_left ms (nothing_after t v m e))

-- an integer on the right side of an equation never makes a cycle
pub no_cycle : (S : VarName → Option Tree) (t : Tree) (v : ℤ) → ¬ Cycles S t (integer v)
no_cycle S t v c = elim (first_or_none t v c.6 refl) [
  | inr e ↦ let no_equation : (c.1, c.2) ∷ c.3 ≡ [] = e in cc
  | inl e ↦ let side : c.2 ≡ integer v = ap (second v) e in at (subst (IsCycle c.0 c.1) side c.7)
] where
  at : ¬ IsCycle c.0 c.1 (integer v)
  at (inl h) = from_integer h.5
  at (inr h) = elim h.6 [ ]

module _ (P : Program) (accepted : IsProgram P) (s : StoreValue) (acyclic : IsAcyclic (value_at s)) where
  abbrev S : VarName → Option Tree
  S = value_at s

  outcome : (c : Clause) (ts : List Tree) (k : ℕ) → IsClause P k c → (o : Outcome) × HasOutcome c ts S o
  outcome c ts k ic = each_outcome c ts s (accepted c (in_at P ic.0 c ic.2)).linear acyclic

  module _ (f : List ℕ) (ts : List Tree) where
    -- clause k is for the call, and accepts it, or waits
    abbrev AcceptsAt : ℕ → Type 0
    AcceptsAt k = (c : Clause) × IsClause P k c × IsFor f ts c × Accepts c ts S

    abbrev WaitsAt : ℕ → Type 0
    WaitsAt k = (c : Clause) × IsClause P k c × IsFor f ts c × ((x : VarName) × WaitsFor c ts S x)

    accepts_decided : (c : Clause) (o : Outcome) → HasOutcome c ts S o → Decided (Accepts c ts S)
    accepts_decided c refuses h = inr (λ a. accepts_refuses c ts S a h)
    accepts_decided c (waits xs) h = inr (λ a. accepts_waits c ts S a h.1.0 h.1.1)
    accepts_decided c (accepts theta reads) h = inl h.0

    waits_decided : (c : Clause) (o : Outcome) → HasOutcome c ts S o → Decided ((x : VarName) × WaitsFor c ts S x)
    waits_decided c refuses h = inr (λ w. refuses_waits c ts S h w.0 w.1)
    waits_decided c (waits xs) h = inl h.1
    waits_decided c (accepts theta reads) h = inr (λ w. accepts_waits c ts S h.0 w.0 w.1)

    -- clause k is for the call, and Q holds of it, where each outcome decides that
    such_clause : (Q : Clause → Type 0) → ((c : Clause) (o : Outcome) → HasOutcome c ts S o → Decided (Q c)) → (k : ℕ)
        → Decided ((c : Clause) × IsClause P k c × IsFor f ts c × Q c)
    such_clause Q decided k = elim (clause_decided P f ts k) [
      | inr none ↦ inr (λ a. none (a.0, a.1, a.2))
      | inl c ↦ let o = outcome c.0 ts k c.1 in elim (decided c.0 o.0 o.1) [
        | inl q ↦ inl (c.0, c.1, c.2, q)
        | inr n ↦ inr (λ a. n (subst Q (clause_once P a.1 c.1) a.3))
      ]
    ]

    -- no clause has a number past those of the program
    in_program : (k : ℕ) (c : Clause) → IsClause P k c → k < suc (length P)
    in_program k c i = let l = slice_get_within P i.0 c i.2 in omega (arith, i.1, l)

    fires : (k : ℕ) (c : Clause) → IsClause P k c → IsFor f ts c → Accepts c ts S → (e : Effect) × HasEffect P (call f ts) (by_clause k) no_step S e
    fires k c ic is a = let o = outcome c ts k ic in by o.0 o.1 where
      by : (o : Outcome) → HasOutcome c ts S o → (e : Effect) × HasEffect P (call f ts) (by_clause k) no_step S e
      by refuses h = absurd (accepts_refuses c ts S a h)
      by (waits xs) h = absurd (accepts_waits c ts S a h.1.0 h.1.1)
      by (accepts theta reads) h = reduced P no_step s acyclic f ts k c theta reads ic is h

    call_answer : (a : Answer) × CallAnswers no_step P f ts S a
    call_answer = elim (least AcceptsAt (such_clause (λ c. Accepts c ts S) accepts_decided) (suc (length P))) [
      | inl k ↦
          let c = k.1 in
          let e = fires k.0 c.0 c.1 c.2 c.3 in
          (proposes (by_clause k.0) e.0, CallAnswers.by_least (k.1, λ j d l ic is a. k.2 j l (d, ic, is, a)) e.1)
      | inr none ↦
          let nobody : ¬ SomeAccepts P f ts S = λ a. none a.0 (in_program a.0 a.1 a.2) (a.1, a.2, a.3, a.4) in
          elim (least WaitsAt (such_clause (λ c. (x : VarName) × WaitsFor c ts S x) waits_decided) (suc (length P))) [
            | inl k ↦ let c = k.1 in (refused Waits, CallAnswers.waits nobody (k.0, c.0, c.1, c.2, c.3.1))
            | inr idle ↦ (refused NoMatch, CallAnswers.no_match nobody (λ x w. idle w.0 (in_program w.0 w.1 w.2) (w.1, w.2, w.3, (x, w.4))))
          ]
    ]

    choice_answer : (k : ℕ) → (a : Answer) × ChoiceAnswers no_step P f ts k S a
    choice_answer k = elim (clause_decided P f ts k) [
      | inr none ↦ (refused NoClause, ChoiceAnswers.no_clause (λ c ic is. none (c, ic, is)))
      | inl c ↦ let o = outcome c.0 ts k c.1 in by c.0 c.1 c.2 o.0 o.1
    ] where
      by : (c : Clause) → IsClause P k c → IsFor f ts c → (o : Outcome) → HasOutcome c ts S o → (a : Answer) × ChoiceAnswers no_step P f ts k S a
      by c ic is refuses h = (refused NoMatch, ChoiceAnswers.no_match ic is h)
      by c ic is (waits xs) h = (refused Waits, ChoiceAnswers.waits ic is h.1.1)
      by c ic is (accepts theta reads) h = let e = reduced P no_step s acyclic f ts k c theta reads ic is h in (proposes (by_clause k) e.0, ChoiceAnswers.by_choice e.1)

  unification_answer : (l r : Tree) → (a : Answer) × UnificationAnswers P l r S a
  unification_answer l r = let e = each_ending s l r acyclic in by e.0 e.1 where
    by : (o : Ending) → HasEnding S l r o → (a : Answer) × UnificationAnswers P l r S a
    by (solved binds reads) h = let e = united P no_step s acyclic l r binds reads h in (proposes unified e.0, UnificationAnswers.solves e.1)
    by clash h = (refused Clash, UnificationAnswers.clashes h)
    by cycle h = (refused Cycle, UnificationAnswers.cycles h)

  assignment_answer : (t : Tree) (b : Expression) → (a : Answer) × AssignmentAnswers P t b S a
  assignment_answer t b = let v = each_value s b acyclic in by v.0 v.1 where
    with_value : (v : ℤ) → HasValue S b (number v) → (o : Ending) → HasEnding S t (integer v) o → (a : Answer) × AssignmentAnswers P t b S a
    with_value v k (solved binds rest) h = let e = made_equal P no_step s acyclic t b v binds rest k h in (proposes assigned e.0, AssignmentAnswers.assigns e.1)
    with_value v k clash h = (refused Clash, AssignmentAnswers.clashes v k h)
    with_value v k cycle h = absurd (no_cycle S t v h)

    by : (v : Value) → HasValue S b v → (a : Answer) × AssignmentAnswers P t b S a
    by (number v) k = let e = each_ending s t (integer v) acyclic in with_value v k e.0 e.1
    by (waits_on xs) w = (refused Waits, AssignmentAnswers.waits xs w)
    by bad w = (refused Arithmetic, AssignmentAnswers.has_no_value w)

pub each_answer : EachAttemptHasAnAnswer
each_answer P s (Some (call f ts)) None accepted acyclic = call_answer P accepted s acyclic f ts
each_answer P s (Some (call f ts)) (Some k) accepted acyclic = choice_answer P accepted s acyclic f ts k
each_answer P s (Some (unify l r)) None accepted acyclic = unification_answer P accepted s acyclic l r
each_answer P s (Some (unify l r)) (Some k) accepted acyclic = (refused NoClause, refl)
each_answer P s (Some (assign t b)) None accepted acyclic = assignment_answer P accepted s acyclic t b
each_answer P s (Some (assign t b)) (Some k) accepted acyclic = (refused NoClause, refl)
each_answer P s _ choice accepted acyclic = (refused NoGoal, refl)
