-- Steps that ask for goals, found again: which goals a step can ask for, and its own variables in order.
use Rattle.ghc_core.proofs.Words.{◌≡◌, ◌≢◌, ℕ, zero, suc, ◌+◌, ◌<◌, ◌≤◌, ◌==◌, List, [], ◌∷◌, ◌++◌, length, take, drop, get_or, filter, refl, sym, ap, ◌∙◌, inl, inr, arith, append-nil, drop-cons, take-append-drop, None, eq-eqb, ne_eqb, filter-append, VarName, Goal, call, stream, AreNarrow, Program, AllCalls, is_stream, most_goals, made, Asked as asked, own_variables, made_from, effect_of_asking, Record, Step, step_of, not_stream, not_both, firing, World, HasRoom, IsKnown, IsNextStep, HasClauseFor, CanBeAsked, made_more, take_more, true≢false}
use Rattle.ghc_fire.specs.Asked.{Asks}
use Rattle.ghc_core.proofs.AskedGoals.{defined_by, defined_calls}

-- after made variables comes the next one
made_next : (n i c k : ℕ) (x : VarName) (rest : List VarName) → made_from n i c ++ x ∷ rest ≡ made_from n i k → x ≡ made n (i + c)
made_next n i zero (suc k) x rest e = let first : x ≡ made n i = cc in let p : i ≡ i + 0 = omega arith in first ∙ ap (made n) p
made_next n i (suc c) (suc k) x rest e =
    let behind : made_from n (i + 1) c ++ x ∷ rest ≡ made_from n (i + 1) k = cc in
    let p : i + 1 + c ≡ i + suc c = omega arith in
    made_next n (i + 1) c k x rest behind ∙ ap (made n) p
made_next n i c k x rest e = cc

-- the variables of step n
abbrev pub own : ℕ → List VarName → List VarName
own n xs = filter (λ x. x.step == n) xs

module _ (n : ℕ) (xs : List VarName) (i : ℕ) (d : VarName) (less : i < length xs) (c : ℕ) (before : own n (take i xs) ≡ made_from n 1 c) where
  abbrev x : VarName
  x = get_or xs i d

  -- one variable more of the step is the next one
  pub own_more : x.step ≡ n → x.place ≡ c + 1 → own n (take (i + 1) xs) ≡ made_from n 1 x.place
  own_more step place =
      let same : x ≡ made n (1 + c) = let p : x.place ≡ 1 + c = omega (arith, place) in λ j. record { step = step j; place = p j } in
      let count : suc c ≡ x.place = omega (arith, place) in
      rw (take_more xs i d less, filter-append, before, eq-eqb x.step n step)
      (ap (λ y. made_from n 1 c ++ y ∷ []) same ∙ made_more n 1 c ∙ ap (made_from n 1) count)

  -- one of another step is none
  pub own_other : x.step ≢ n → own n (take (i + 1) xs) ≡ made_from n 1 c
  own_other other = rw (take_more xs i d less, filter-append, before, ne_eqb x.step n other, append-nil)

  -- one that is not the next one is in no order
  pub own_never : (k : ℕ) → x.step ≡ n → x.place ≢ c + 1 → own n xs ≢ made_from n 1 k
  own_never k step place e =
      let rest = own n (drop (suc i) xs) in
      let own_x : own n (x ∷ drop (suc i) xs) ≡ x ∷ rest = rw (eq-eqb x.step n step) in
      let whole : xs ≡ take i xs ++ x ∷ drop (suc i) xs = sym (take-append-drop i xs) ∙ ap (λ l. take i xs ++ l) (drop-cons xs i d less) in
      let parts : own n xs ≡ own n (take i xs) ++ own n (x ∷ drop (suc i) xs) = ap (own n) whole ∙ filter-append _ (take i xs) (x ∷ drop (suc i) xs) in
      let next = made_next n 1 c k x rest (rw (own_x, before, e) at (sym parts)) in
      place (ap (λ (y : VarName). y.place) next ∙ omega arith)

-- Goals that can be asked for, one by one, are so together.
pub plain_by : (P : Program) (gs : List Goal) → CanBeAsked P gs → filter is_stream gs ≡ []
plain_by P [] all = refl
plain_by P (stream k x ∷ gs) all = absurd (all (stream k x) (inl refl))
plain_by P (g ∷ gs) all = plain_by P gs (λ h i. all h (inr i))

pub each_by : (P : Program) (gs : List Goal) → filter is_stream gs ≡ [] → AreNarrow gs → AllCalls (HasClauseFor P) gs → CanBeAsked P gs
each_by P gs plain narrow all (call f ts) i = (narrow f ts i, all f ts i)
each_by P gs plain narrow all (stream k x) i = absurd (true≢false (not_stream gs (stream k x) plain i))
each_by P gs plain narrow all g i = tt

-- the step that asks for the goals under the next number
abbrev pub asking : ℕ → List Goal → Step
asking n gs = record { number = n; goal = None; act = asked gs }

module _ (w : World) (gs : List Goal) where
  -- Where each goal can be asked for, and the own variables are in order, the step is possible as the next one.
  pub asking_next : (k : ℕ) (r : Record) → length gs ≤ most_goals → CanBeAsked w.opening.program gs → own_variables w.next gs ≡ made_from w.next 1 k → HasRoom w → IsKnown w r
      → r ≡ record { number = w.next; goal = None; consumed = None; act = asked gs; effect = effect_of_asking gs k } → IsNextStep w r
  asking_next k r few all own_ room known is =
      let narrow : AreNarrow gs = λ f ts i. (all (call f ts) i).0 in
      let asks : Asks w.opening.program gs w.next (effect_of_asking gs k) =
      assumption (plain_by w.opening.program gs all, defined_by w.opening.program gs (λ f ts i. (all (call f ts) i).1)) in
      (ap (λ (q : Record). q.number) is, rw is (refl, asks), room, known)

  module _ (r : Record) (is : step_of r ≡ asking w.next gs) (next : IsNextStep w r) where
    asks : Asks w.opening.program gs w.next r.effect
    asks = elim (firing w.opening.program w.state r next.1) [
      | inl t ↦ absurd (not_both t.named (ap (λ (s : Step). s.goal) is))
      | inr a ↦
          let same : a.goals ≡ gs = cc (sym a.act ∙ ap (λ (s : Step). s.act) is) in
          rw (← next.0, ← same) a.asks
    ]

    -- Else it is not.
    pub asking_each : CanBeAsked w.opening.program gs
    asking_each = each_by w.opening.program gs asks.askable.plain asks.askable.narrow (defined_calls w.opening.program gs asks.defined)

    -- what it names is known, so that of each record of the step is
    pub asking_known : (q : Record) → q.number ≡ w.next → q.act ≡ asked gs → IsKnown w q
    asking_known q number act x named =
        let own_act : q.act ≡ r.act = act ∙ sym (ap (λ (s : Step). s.act) is) in
        next.3 x (rw own_act at named.0, λ e. named.1 (e ∙ next.0 ∙ sym number))
