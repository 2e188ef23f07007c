-- Goals that are asked for: as they are written, before a step, and as steps have them.
use Rattle.ghc_fire.proofs.Words.{◌≡◌, ◌≢◌, ℕ, zero, suc, ◌+◌, ◌-◌, ◌==◌, ◌⊎◌, Bool, true, false, cond, List, [], ◌∷◌, length, map, refl, sym, ap, ◌∙◌, subst, inl, inr, arith, Option, Some, None, filter, slice_get, unwrap_or, is_none, length-map, eq-eqb, ne_eqb, eqb_tells, VarName, Tree, variable, Goal, In, variables_of_goals, firsts, WrittenAsk, IsWellPut, Program, is_stream, AreDefined, replace_in_goal, made, Effect, no_step, numbered, own_variables, made_from, NameNoneOf, AreAskable, Asks, IsAsk, renumbered, asked_as, named_so, called, called_by, asked_of, effect_of_asking}
use Rattle.std.specs.FinMap as finite
use Rattle.std.specs.FinSet as set
use Rattle.ghc_fire.proofs.EachOnce.{map_in, firsts_in, renamed_firsts, firsts_twice, filtered_firsts, made_firsts}
use Rattle.ghc_fire.proofs.Renamed.{in_goals}
use Rattle.ghc_fire.proofs.Steps.{same_effect}
use Rattle.ghc_fire.proofs.Under.{goals_twice}
use Rattle.ghc_fire.proofs.Replaced.{by, goals_renamed, kept_plain, call_replaced, same_goals}

-- a list that is tested, renamed and tested again
filter_renamed : (f : VarName → VarName) (p q : VarName → Bool) (xs : List VarName) → ((x : VarName) → In x xs → q (f x) ≡ p x) → filter q (map f xs) ≡ map f (filter p xs)
filter_renamed f p q [] h = refl
filter_renamed f p q (x ∷ xs) h =
    let rest = filter_renamed f p q xs (λ y i. h y (inr i)) in
    elim (p x) as (λ b. p x ≡ b → cond (q (f x)) (f x ∷ filter q (map f xs)) (filter q (map f xs)) ≡ map f (cond b (x ∷ filter p xs) (filter p xs))) [
      | true ↦ λ e. rw (h x (inl refl) ∙ e) (ap (λ l. f x ∷ l) rest)
      | false ↦ λ e. rw (h x (inl refl) ∙ e) rest
    ] refl

-- the variable with another number of its step, where it is of step m
abbrev pub moved : ℕ → ℕ → VarName → VarName
moved m n x = cond (x.step == m) (made n x.place) x

module _ (m n : ℕ) where
  -- it was of the step, and has moved, or it was not, and stays
  pub moved_cases : (x : VarName) → ((x.step ≡ m) × (moved m n x ≡ made n x.place)) ⊎ ((x.step ≢ m) × (moved m n x ≡ x))
  moved_cases x = elim (eqb_tells x.step m) [ inl (e, p) ↦ inl (p, rw e refl) | inr (e, p) ↦ inr (p, rw e refl) ]

  moved_from : (i k : ℕ) → map (moved m n) (made_from m i k) ≡ made_from n i k
  moved_from i zero = refl
  moved_from i (suc k) = rw (eq-eqb m m refl) (ap (λ l. made n i ∷ l) (moved_from (i + 1) k))

  module _ (xs : List VarName) (none : (x : VarName) → In x xs → x.step ≢ n) where
    moved_test : (x : VarName) → In x xs → ((moved m n x).step == n) ≡ (x.step == m)
    moved_test x i = elim (moved_cases x) [
      | inl (e, q) ↦ rw q (eq-eqb n n refl ∙ sym (eq-eqb x.step m e))
      | inr (d, q) ↦ rw q (ne_eqb x.step n (none x i) ∙ sym (ne_eqb x.step m d))
    ]

    moved_apart : (x y : VarName) → In x xs → In y xs → moved m n x ≡ moved m n y → x ≡ y
    moved_apart x y i j q = elim (moved_cases x) [
      | inl (e, p) ↦ elim (moved_cases y) [
        | inl (f, r) ↦
            let place : x.place ≡ y.place = ap (λ (v : VarName). v.place) (sym p ∙ q ∙ r) in
            let step : x.step ≡ y.step = e ∙ sym f in
            λ i. record { step = step i; place = place i }
        | inr (d, r) ↦ absurd (none y j (ap (λ (v : VarName). v.step) (sym r ∙ sym q ∙ p)))
      ]
      | inr (d, p) ↦ elim (moved_cases y) [
        | inl (f, r) ↦ absurd (none x i (ap (λ (v : VarName). v.step) (sym p ∙ q ∙ r)))
        | inr (f, r) ↦ sym p ∙ q ∙ r
      ]
    ]

  module _ (gs : List Goal) (plain : filter is_stream gs ≡ []) (none : NameNoneOf n gs) where
    abbrev xs : List VarName
    xs = variables_of_goals gs

    -- the variables, each once, have moved
    pub moved_firsts : firsts [] (variables_of_goals (map (replace_in_goal (by (moved m n))) gs)) ≡ map (moved m n) (firsts [] xs)
    moved_firsts = rw (goals_renamed (moved m n) gs plain) (renamed_firsts (moved m n) [] xs (moved_apart xs none) (λ x y i j. absurd j))

    -- the goals' own variables, in order, have moved
    pub moved_own : (k : ℕ) → own_variables m gs ≡ made_from m 1 k → own_variables n (map (replace_in_goal (by (moved m n))) gs) ≡ made_from n 1 k
    moved_own k own =
        ap (filter (λ x. x.step == n)) moved_firsts
        ∙ filter_renamed (moved m n) (λ x. x.step == m) (λ x. x.step == n) (firsts [] xs) (λ x i. moved_test xs none x (firsts_in [] xs x i))
        ∙ ap (map (moved m n)) own
        ∙ moved_from 1 k

    -- a variable of the moved goals has moved, or was there
    pub moved_in : (x : VarName) → In x (variables_of_goals (map (replace_in_goal (by (moved m n))) gs)) → (x.step ≡ n) ⊎ (In x (variables_of_goals gs) × (x.step ≢ m))
    moved_in x i =
        let r = map_in (moved m n) xs x (subst (In x) (goals_renamed (moved m n) gs plain) i) in
        elim (moved_cases r.0) [
          | inl (e, p) ↦ inl (ap (λ (v : VarName). v.step) (r.2 ∙ p))
          | inr (d, p) ↦ let same : r.0 ≡ x = sym (r.2 ∙ p) in inr (subst (λ (y : VarName). In y xs × (y.step ≢ m)) same (r.1, d))
        ]

  -- moved there and back again
  moved_back : (x : VarName) → x.step ≢ n → moved n m (moved m n x) ≡ x
  moved_back x d = elim (moved_cases x) [
    | inl (e, p) ↦ rw p (rw (eq-eqb n n refl) (λ i. record { step = sym e i; place = x.place }))
    | inr (c, p) ↦ rw p (rw (ne_eqb x.step n d) refl)
  ]

-- a variable of a written ask that is named is of no step, and what stands for nothing is no new one
named_test : (x : VarName) → ((named_so x).step == no_step) ≡ false
named_test x = elim (eqb_tells x.step no_step) [ inl (e, p) ↦ rw e refl | inr (e, p) ↦ rw e e ]

-- of what the variables of a written ask are called, the new ones are made in order
called_own : (i : ℕ) (os : List (Option VarName)) → filter (λ x. x.step == no_step) (called i os) ≡ made_from no_step i (length (filter is_none os))
called_own i [] = refl
called_own i (None ∷ os) = ap (λ l. made no_step i ∷ l) (called_own (i + 1) os)
called_own i (Some x ∷ os) = rw (named_test x) (called_own i os)

pub called_length : (i : ℕ) (os : List (Option VarName)) → length (called i os) ≡ length os
called_length i [] = refl
called_length i (None ∷ os) = ap suc (called_length (i + 1) os)
called_length i (Some x ∷ os) = ap suc (called_length i os)

-- the name of the variable
abbrev pub name_in : List VarName → VarName → VarName
name_in ys y = unwrap_or (slice_get ys (y.place - 1)) y

-- The i-th of the variables becomes the i-th of as many others, which follow k more in a list.
names_in : (zs : List VarName) (k : ℕ) (xs ys : List VarName) → length xs ≡ length ys → ((i : ℕ) → slice_get zs (k + i) ≡ slice_get ys i)
    → ((i : ℕ) (x : VarName) → slice_get xs i ≡ Some x → x ≡ made 0 (k + i + 1)) → map (name_in zs) xs ≡ ys
names_in zs k [] [] e same h = refl
names_in zs k [] (y ∷ ys) e same h = absurd (omega (arith, e))
names_in zs k (x ∷ xs) [] e same h = absurd (omega (arith, e))
names_in zs k (x ∷ xs) (y ∷ ys) e same h =
    let place : x.place - 1 ≡ k + 0 = omega (arith, ap (λ (v : VarName). v.place) (h 0 x refl)) in
    let first : name_in zs x ≡ y = ap (λ o. unwrap_or o x) (ap (slice_get zs) place ∙ same 0) in
    let moves : (i : ℕ) → k + 1 + i ≡ k + suc i = λ i. omega arith in
    let rest = names_in zs (k + 1) xs ys (omega (arith, e)) (λ i. ap (slice_get zs) (moves i) ∙ same (suc i)) (λ i z q. h (suc i) z q ∙ ap (λ l. made 0 (l + 1)) (sym (moves i))) in
    λ i. first i ∷ rest i

module _ (s : VarName → Tree) where
  pub replaced_askable : (gs : List Goal) → AreAskable gs → AreAskable (map (replace_in_goal s) gs)
  replaced_askable gs a = record {
    few = omega (arith, length-map gs (replace_in_goal s), a.few);
    plain = kept_plain s gs a.plain;
    narrow = λ f ts i. let c = call_replaced s gs f ts i in omega (arith, c.2, a.narrow f c.0 c.1);
  }

  pub replaced_defined : (P : Program) (gs : List Goal) → AreDefined P gs → AreDefined P (map (replace_in_goal s) gs)
  replaced_defined P gs d f ts i =
      let c = call_replaced s gs f ts i in
      let k = d f c.0 c.1 in
      (k.0, k.1, k.2, (k.3.0, k.3.1 ∙ c.2))

-- What is written asks for goals that can be asked for, and their new variables are in order.
module _ (a : WrittenAsk) (put : IsWellPut a) where
  pub written_askable : AreAskable (asked_of a)
  written_askable = replaced_askable (called_by (called 1 a.named)) a.goals (record { few = put.limited.goals; plain = put.plain; narrow = put.limited.arguments })

  pub written_firsts : firsts [] (variables_of_goals (asked_of a)) ≡ firsts [] (called 1 a.named)
  written_firsts =
      let ys = called 1 a.named in
      let xs = variables_of_goals a.goals in
      ap (firsts []) (goals_renamed (name_in ys) a.goals put.plain)
      ∙ sym (firsts_twice (name_in ys) [] [] xs (λ x i. absurd i))
      ∙ ap (firsts []) (names_in ys 0 (firsts [] xs) ys (sym put.told ∙ sym (called_length 1 a.named)) (λ i. let same : 0 + i ≡ i = omega arith in ap (slice_get ys) same)
      (λ i x e. put.numbered i x e ∙ ap (λ l. made 0 (l + 1)) (let same : i ≡ 0 + i = omega arith in same)))

  pub written_own : own_variables no_step (asked_of a) ≡ made_from no_step 1 (length (filter is_none a.named))
  written_own =
      let is_new : VarName → Bool = λ x. x.step == no_step in
      ap (filter is_new) written_firsts
      ∙ filtered_firsts is_new [] [] (called 1 a.named) (λ x t. refl)
      ∙ ap (firsts []) (called_own 1 a.named)
      ∙ made_firsts no_step 1 (length (filter is_none a.named))

-- what a variable of no step becomes as one of step n
numbered_moved : (n : ℕ) → numbered n ≡ by (moved no_step n)
numbered_moved n = λ i x. same x i
  where
    same : (x : VarName) → numbered n x ≡ variable (moved no_step n x)
    same x = elim (eqb_tells x.step no_step) [ inl (e, p) ↦ rw e refl | inr (e, p) ↦ rw e refl ]

asked_moved : (n : ℕ) (gs : List Goal) → asked_as n gs ≡ map (replace_in_goal (by (moved no_step n))) gs
asked_moved n gs = ap (λ s. map (replace_in_goal s) gs) (numbered_moved n)

module _ (gs : List Goal) (n : ℕ) (none : NameNoneOf n gs) where
  -- the variables of an ask, each once, as step n has them
  pub numbered_firsts : filter is_stream gs ≡ [] → firsts [] (variables_of_goals (asked_as n gs)) ≡ map (renumbered n) (firsts [] (variables_of_goals gs))
  numbered_firsts plain = ap (λ hs. firsts [] (variables_of_goals hs)) (asked_moved n gs) ∙ moved_firsts no_step n gs plain none

  -- A step asks so, where it makes the goals and the new variables, and reads and binds nothing.
  pub asks_with : (P : Program) (k : ℕ) (e : Effect) → AreAskable gs → own_variables no_step gs ≡ made_from no_step 1 k → AreDefined P gs
      → e.reads ≡ set.empty → e.binds ≡ finite.empty → e.makes ≡ asked_as n gs → e.fresh ≡ k → Asks P (asked_as n gs) n e
  asks_with P k e a own defined reads binds makes fresh = record {
    askable = replaced_askable (numbered n) gs a;
    defined = replaced_defined (numbered n) P gs defined;
    reads = reads;
    binds = binds;
    makes = makes;
    own = ap (own_variables n) (asked_moved n gs) ∙ moved_own no_step n gs a.plain none k own ∙ ap (made_from n 1) (sym fresh);
  }

pub asks_as : (P : Program) (gs : List Goal) (n : ℕ) → IsAsk gs → AreDefined P gs → NameNoneOf n gs → (e : Effect) × Asks P (asked_as n gs) n e
asks_as P gs n ask defined none = (effect_of_asking (asked_as n gs) ask.1.0, asks_with gs n none P ask.1.0 (effect_of_asking (asked_as n gs) ask.1.0) ask.0 ask.1.1 defined refl refl refl refl)

-- A variable of the goals that step n asks for is its own, or the ask names it.
pub asked_names : (gs : List Goal) (n : ℕ) (x : VarName) → filter is_stream gs ≡ [] → NameNoneOf n gs → In x (variables_of_goals (asked_as n gs)) → x.step ≢ n → In x (variables_of_goals gs) × (x.step ≢ no_step)
asked_names gs n x plain none i d =
    elim (moved_in no_step n gs plain none x (subst (λ hs. In x (variables_of_goals hs)) (asked_moved n gs) i)) [ inl e ↦ absurd (d e) | inr r ↦ r ]

-- the ask of step n that asks for these goals
pub record IsAskedAs (P : Program) (n : ℕ) (gs : List Goal) : Type 0 where
  pub goals : List Goal
  pub same : gs ≡ asked_as n goals
  pub ask : IsAsk goals
  pub defined : AreDefined P goals
  pub none : NameNoneOf n goals
  pub names : (x : VarName) → In x (variables_of_goals goals) → x.step ≢ no_step → In x (variables_of_goals gs) × (x.step ≢ n)

pub asks_back : (P : Program) (gs : List Goal) (n : ℕ) (e : Effect) → n ≢ no_step → NameNoneOf no_step gs → Asks P gs n e → IsAskedAs P n gs
asks_back P gs n e apart none asks =
    let s = by (moved n no_step) in
    let twice : (x : VarName) → In x (variables_of_goals gs) → variable (moved no_step n (moved n no_step x)) ≡ variable x = λ x i. ap variable (moved_back n no_step x (none x i)) in
    let back = in_goals (λ x. variable (moved no_step n (moved n no_step x))) variable gs twice ∙ same_goals gs in
    record {
      goals = map (replace_in_goal s) gs;
      same = sym (asked_moved n (map (replace_in_goal s) gs) ∙ goals_twice (by (moved no_step n)) s (λ x. variable (moved no_step n (moved n no_step x))) (λ x. refl) gs ∙ back);
      ask = (replaced_askable s gs asks.askable, (e.fresh, moved_own n no_step gs asks.askable.plain none e.fresh asks.own));
      defined = replaced_defined s P gs asks.defined;
      none = λ x i. elim (moved_in n no_step gs asks.askable.plain none x i) [ inl f ↦ λ q. apart (sym q ∙ f) | inr r ↦ r.1 ];
      names = λ x i d. elim (moved_in n no_step gs asks.askable.plain none x i) [ inl f ↦ absurd (d f) | inr r ↦ r ];
    }

-- how many variables, by the last of them
many : (n i k l : ℕ) → made_from n i k ≡ made_from n i l → k ≡ l
many n i zero zero e = refl
many n i zero (suc l) e = cc
many n i (suc k) zero e = cc
many n i (suc k) (suc l) e = ap suc (many n (i + 1) k l (let rest : made_from n (i + 1) k ≡ made_from n (i + 1) l = cc in rest))

-- A step that asks for goals has one effect.
pub asks_once : (P : Program) (gs : List Goal) (n : ℕ) (e f : Effect) → Asks P gs n e → Asks P gs n f → e ≡ f
asks_once P gs n e f p q =
    same_effect e f (p.reads ∙ sym q.reads) (p.binds ∙ sym q.binds) (p.makes ∙ sym q.makes) (many n 1 e.fresh f.fresh (sym p.own ∙ q.own))
