-- Asks: each is refused for one reason, or asks for one step.
use Rattle.ghc_core.proofs.Words.{◌≡◌, ◌≢◌, ◌↔◌, ◌<◌, ℕ, ◌+◌, ◌⊎◌, Bool, false, not, eqb, IsTrue, List, [], ◌∷◌, length, map, filter, rules, refl, sym, ap, ◌∙◌, subst, inl, inr, arith, None, coded_list, coded_ℕ, false≢true, eqb_tells, length-map, Fault, VarName, IsAcyclic, Tree, Goal, call, In, value_at, Decided, decided_by, decided_both, nat_decided, same_decided, some_decided, in_map, in_at, at_of_in, Program, AllCalls, IsFirstCallWithout, AreDefined, is_stream, AreNumbersFor, variables_of_goals, firsts, same_call, Asked as asked, IsAsk, NameNoneOf, asked_as, renumbered, variables_asked, Effect, no_step, replace, replace_in_goal, numbered, asks_as, asked_names, numbered_firsts, Record, first_in, of_query, not_both, fires_once, IsAsking, firing, HasClauseFor, HasUndefined, NameKnown, IsOfAsk, AskFails, IsNotAskedAnyway, World, IsFull, HasRoom, IsKnown, IsNextStep, IsStanding, call_once, no_call, firsts_in}
use Rattle.ghc_fire.specs.Asked.{Asks}
use Rattle.ghc_core.proofs.Answered.{room}
use Rattle.ghc_core.proofs.Naming.{all_decided}
use Rattle.ghc_core.proofs.Reaching.{reached_good}
use Rattle.ghc_core.proofs.Refusing.{TellsOne, told_once, first_once}
use Rattle.ghc_core.proofs.Standing.{standing_below, standing_sound}
use Rattle.ghc_core.proofs.Stepping.{room_or_full}

not_none : (k : ℕ) (ks : List ℕ) → eqb (length (k ∷ ks)) 0 ≡ false
not_none k ks = search rules

-- A call is defined where the numbers of its clauses are not none.
pub defined_told : (P : Program) (f : List ℕ) (n : ℕ) (ks : List ℕ) (empty : Bool) → AreNumbersFor P f n ks → empty ≡ eqb (length ks) 0 → IsTrue (not empty) ↔ HasClauseFor P f n
defined_told P f n [] empty are e = (λ t. absurd (false≢true (sym (ap not e) ∙ t)), λ h. absurd ((are.exactly h.0).1 (h.1, h.2, h.3, h.4)))
defined_told P f n (k ∷ ks) empty are e = (λ t. let found = (are.exactly k).0 (inl refl) in (k, found.0, found.1, found.2, found.3), λ h. ap not (e ∙ not_none k ks))

-- calls that are defined in what a step asks for were so in the ask
defined_back : (P : Program) (gs : List Goal) (n : ℕ) → AreDefined P (asked_as n gs) → AreDefined P gs
defined_back P gs n defined f ts i =
    let h = defined f (map (replace (numbered n)) ts) (in_map (replace_in_goal (numbered n)) gs (call f ts) i) in
    (h.0, h.1, h.2, (h.3.0, h.3.1 ∙ length-map ts (replace (numbered n))))

-- what an ask names stands in what the step asks for
names_asked : (gs : List Goal) (n : ℕ) (x : VarName) → filter is_stream gs ≡ [] → NameNoneOf n gs → In x (variables_of_goals gs) → x.step ≢ no_step → In x (firsts [] (variables_of_goals (asked_as n gs)))
names_asked gs n x plain none i other =
    let first = in_map (renumbered n) (firsts [] (variables_of_goals gs)) x (first_in [] (variables_of_goals gs) x i refl) in
    subst (In x) (sym (numbered_firsts gs n none plain)) (subst (λ y. In y (map (renumbered n) (firsts [] (variables_of_goals gs)))) stays first)
  where
    stays : renumbered n x ≡ x
    stays = elim (eqb_tells x.step no_step) [ inl (e, p) ↦ absurd (other p) | inr (e, p) ↦ rw e refl ]

-- whether the program has a clause of this name and arity
clause_decided : (P : Program) (f : List ℕ) (n : ℕ) → Decided (HasClauseFor P f n)
clause_decided P f n =
    decided_by (λ h. let at = at_of_in P h.0 h.1 in (at.0 + 1, h.0, (at.0, refl, at.1), h.2.0, h.2.1)) (λ h. (h.1, in_at P h.2.0 h.1 h.2.2, (h.3, h.4)))
    (some_decided P (λ c. (c.name ≡ f) × (length c.head ≡ n)) (λ c i. decided_both (same_decided (coded_list coded_ℕ) c.name f) (nat_decided (length c.head) n)))

module _ (D : List ℕ → ℕ → Type 0) where
  -- among the goals there is a first call without, or D holds of all
  abbrev Calls : List Goal → Type 0
  Calls gs = AllCalls D gs ⊎ ((f : List ℕ) × (n : ℕ) × IsFirstCallWithout D gs f n)

  call_more : (g : Goal) (gs : List Goal) → ((f : List ℕ) (ts : List Tree) → call f ts ≡ g → D f (length ts)) → Calls gs → Calls (g ∷ gs)
  call_more g gs here (inl all) = inl (λ f ts i. elim i [ inl e ↦ here f ts e | inr j ↦ all f ts j ])
  call_more g gs here (inr (f, n, first)) = inr (
    f,
    n,
    record {
      front = g ∷ first.front;
      arguments = first.arguments;
      back = first.back;
      splits = ap (λ l. g ∷ l) first.splits;
      arity = first.arity;
      before = λ h us i. elim i [ inl e ↦ here h us e | inr j ↦ first.before h us j ];
      without = first.without;
    },
  )

  calls_decided : ((f : List ℕ) (n : ℕ) → Decided (D f n)) → (gs : List Goal) → Calls gs
  calls_decided decide [] = inl (λ f ts i. absurd i)
  calls_decided decide (call f ts ∷ gs) = elim (decide f (length ts)) [
    | inl d ↦ call_more (call f ts) gs (λ h us e. same_call D f h ts us (sym e) d) (calls_decided decide gs)
    | inr n ↦ inr (f, length ts, record { front = []; arguments = ts; back = gs; splits = refl; arity = refl; before = λ h us i. absurd i; without = n })
  ]
  calls_decided decide (g ∷ gs) = call_more g gs (λ h us e. cc) (calls_decided decide gs)

-- calls are defined just where the program has a clause for each
pub defined_by : (P : Program) (gs : List Goal) → AllCalls (HasClauseFor P) gs → AreDefined P gs
defined_by P gs all f ts i = let h = all f ts i in (h.0, h.1, h.2, (h.3, h.4))

pub defined_calls : (P : Program) (gs : List Goal) → AreDefined P gs → AllCalls (HasClauseFor P) gs
defined_calls P gs defined f ts i = let h = defined f ts i in (h.0, h.1, h.2, h.3.0, h.3.1)

module _ (w : World) (gs : List Goal) where
  pub undefined_told : (f : List ℕ) (n : ℕ) → IsFirstCallWithout (HasClauseFor w.opening.program) gs f n → AskFails w gs (Fault.Undefined f n)
  undefined_told f n first = record { first = inl (f, n, refl, first) }

  none_undefined : AllCalls (HasClauseFor w.opening.program) gs → (f : Fault) → ¬ HasUndefined w gs f
  none_undefined all f (name, n, e, first) = no_call (HasClauseFor w.opening.program) gs name n all first

  pub unknown_told : AllCalls (HasClauseFor w.opening.program) gs → ¬ NameKnown w gs → AskFails w gs Fault.NoVariable
  unknown_told all unknown = record { first = inr (none_undefined all, inl (refl, unknown)) }

  pub full_told : AllCalls (HasClauseFor w.opening.program) gs → NameKnown w gs → IsFull w → AskFails w gs Fault.Full
  full_told all known many = record { first = inr (none_undefined all, inr ((λ f unknown. unknown.1 known), (refl, many))) }

  -- An ask is refused for one reason.
  undefined_once : TellsOne (HasUndefined w gs)
  undefined_once f g (a, n, e, p) (b, m, h, q) = let same = call_once (HasClauseFor w.opening.program) gs a b n m p q in e ∙ (λ i. Fault.Undefined (same.0 i) (same.1 i)) ∙ sym h

  pub ask_fails_once : {f g : Fault} → AskFails w gs f → AskFails w gs g → f ≡ g
  ask_fails_once {f} {g} p q = first_once _ _ undefined_once (first_once _ _ (told_once _ _) (told_once _ _)) f g p.first q.first

  -- what is said where it is refused for these
  pub said_no_variable : {f : Fault} → AskFails w gs f → f ≡ Fault.NoVariable → ¬ NameKnown w gs
  said_no_variable p same known = grind arith

  pub said_full : {f : Fault} → AskFails w gs f → f ≡ Fault.Full → IsFull w
  said_full p same = grind arith

  -- An ask is refused for nothing but these.
  pub ask_told : {f : Fault} → AskFails w gs f → (f ≢ Fault.NoStream) × (f ≢ Fault.TailBound) × (f ≢ Fault.Command)
  ask_told p = grind arith

  -- the refusal that comes whatever memory is left is the one
  pub one_ask_refusal : {f g : Fault} → AskFails w gs f → IsNotAskedAnyway w gs g → f ≡ g
  one_ask_refusal p (inl (e, q)) = ask_fails_once p q ∙ sym e
  one_ask_refusal p (inr (e, q)) = ask_fails_once p q ∙ sym e

  -- and is neither where a call is undefined, nor where the ask can be done
  pub undefined_first : (f : List ℕ) (n : ℕ) {g : Fault} → IsFirstCallWithout (HasClauseFor w.opening.program) gs f n → ¬ IsNotAskedAnyway w gs g
  undefined_first f n first (inl (e, q)) = let clash : Fault.Undefined f n ≡ Fault.NoVariable = ask_fails_once (undefined_told f n first) q in cc
  undefined_first f n first (inr (e, q)) = let clash : Fault.Undefined f n ≡ Fault.Full = ask_fails_once (undefined_told f n first) q in cc

  pub ask_not_refused : {g : Fault} → NameKnown w gs → HasRoom w → ¬ IsNotAskedAnyway w gs g
  ask_not_refused known free (inl (e, q)) = said_no_variable q refl known
  ask_not_refused known free (inr (e, q)) = room_or_full w free (said_full q refl)

-- the step of an ask, as it is possible
module _ (w : World) (gs : List Goal) (r : Record) (of : IsOfAsk gs r) (next : IsNextStep w r) where
  asking : IsAsking w.opening.program r
  asking = elim (firing w.opening.program w.state r next.1) [ inl t ↦ absurd (not_both t.named of.2) | inr a ↦ a ]

  its_goals : asking.goals ≡ asked_as r.number gs
  its_goals = let same : asked asking.goals ≡ asked (asked_as r.number gs) = sym asking.act ∙ of.3 in cc

  asks : Asks w.opening.program (asked_as r.number gs) r.number r.effect
  asks = subst (λ l. Asks w.opening.program l r.number r.effect) its_goals asking.asks

  defined : AllCalls (HasClauseFor w.opening.program) gs
  defined = defined_calls w.opening.program gs (defined_back w.opening.program gs r.number asks.defined)

  named : NameKnown w gs
  named x i other =
      next.3 x (subst (λ a. In x (variables_asked a)) (sym of.3) (names_asked gs r.number x of.0.0.plain of.1 i other), of.1 x i)

  -- Where it is possible as the next one, the ask is not refused.
  pub ask_or_fail : {f : Fault} → ¬ AskFails w gs f
  ask_or_fail p = elim p.first [
    | inl u ↦ none_undefined w gs defined _ u
    | inr (_, inl (_, unknown)) ↦ unknown named
    | inr (_, inr (_, (_, many))) ↦ room_or_full w next.2 many
  ]

-- An ask asks for one step.
pub one_ask : (w : World) → IsAcyclic (value_at w.state.store) → (gs : List Goal) (r s : Record) → IsOfAsk gs r → IsOfAsk gs s → IsNextStep w r → IsNextStep w s → r ≡ s
one_ask w acyclic gs r s o p m n =
    let number : r.number ≡ s.number = m.0 ∙ sym n.0 in
    let goal : r.goal ≡ s.goal = o.2 ∙ sym p.2 in
    let act : r.act ≡ s.act = o.3 ∙ ap (λ k. asked (asked_as k gs)) number ∙ sym p.3 in
    fires_once w.opening.program w.state r s acyclic (λ i. record { number = number i; goal = goal i; act = act i }) m.1 n.1

-- Where what the ask names is known, it names none of the next step's variables, and so its step names what is known.
module _ (w : World) (s : IsStanding w) (gs : List Goal) (ask : IsAsk gs) (known : NameKnown w gs) (free : w.next < 4294967295) where
  pub none_of_next : NameNoneOf w.next gs
  none_of_next x i own =
      elim (known x i (λ no. omega (arith, own, no, free))) [
        | inl q ↦ let zero : x.step ≡ 0 = of_query w.opening.program w.opening.query x (standing_sound w s).1 q in let first = (reached_good s).first in omega (arith, zero, own, first)
        | inr m ↦ let below = standing_below w s m.0 m.1 in let step = m.2.0 in omega (arith, below, step, own)
      ]

  pub ask_known : (r : Record) → r.number ≡ w.next → r.act ≡ asked (asked_as w.next gs) → IsKnown w r
  ask_known r number act x named =
      let there : In x (variables_of_goals (asked_as w.next gs)) = firsts_in [] (variables_of_goals (asked_as w.next gs)) x (subst (λ a. In x (variables_asked a)) act named.0) in
      let was = asked_names gs w.next x ask.0.plain none_of_next there (λ own. named.1 (own ∙ sym number)) in
      known x was.0 was.1

  -- The record of the ask as the next step.
  pub ask_step : AllCalls (HasClauseFor w.opening.program) gs → HasRoom w → (e : Effect) → Asks w.opening.program (asked_as w.next gs) w.next e → (r : Record)
      → r ≡ record { number = w.next; goal = None; consumed = None; act = asked (asked_as w.next gs); effect = e } → IsOfAsk gs r × IsNextStep w r
  ask_step all room e asks r is =
      let made : Record = record { number = w.next; goal = None; consumed = None; act = asked (asked_as w.next gs); effect = e } in
      subst (λ (q : Record). IsOfAsk gs q × IsNextStep w q) (sym is) ((ask, none_of_next, refl, refl), (refl, (refl, asks), room, ask_known made refl refl))

-- An ask is done as the next step, or refused.
pub ask_answered : (w : World) → IsStanding w → (gs : List Goal) → IsAsk gs → ((r : Record) × IsOfAsk gs r × IsNextStep w r) ⊎ ((f : Fault) × AskFails w gs f)
ask_answered w s gs ask = elim (calls_decided (HasClauseFor w.opening.program) (clause_decided w.opening.program) gs) [
  | inr u ↦ inr (Fault.Undefined u.0 u.1, undefined_told w gs u.0 u.1 u.2)
  | inl all ↦ elim (all_decided w.opening.query w.kept no_step (variables_of_goals gs)) [
    | inr unknown ↦ inr (Fault.NoVariable, unknown_told w gs all (λ known. unknown (λ x i. known x i.0 i.1)))
    | inl know ↦
        let known : NameKnown w gs = λ x i other. know x (i, other) in
        elim (room w) [
          | inr many ↦ inr (Fault.Full, full_told w gs all known many)
          | inl free ↦
              let e = asks_as w.opening.program gs w.next ask (defined_by w.opening.program gs all) (none_of_next w s gs ask known free.0) in
              let r : Record = record { number = w.next; goal = None; consumed = None; act = asked (asked_as w.next gs); effect = e.0 } in
              let step = ask_step w s gs ask known free.0 all free e.0 e.1 r refl in
              inl (r, step.0, step.1)
        ]
  ]
]
