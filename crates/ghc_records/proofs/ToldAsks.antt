-- Goals that a text says were asked for can be asked for in a text.
use Rattle.ghc_records.proofs.Words.{◌≡◌, ◌≢◌, ℕ, zero, suc, ◌+◌, ◌-◌, ◌≤◌, true, false, cond, List, [], ◌∷◌, length, refl, sym, ap, ◌∙◌, subst, arith, Option, Some, None, slice_get, unwrap_or, VarName, In, variable, Goal, variables_of_goals, firsts, in_at, Names, IsCalled, Each, IsWithinLimits, WrittenAsk, IsNaming, IsWellPut, of_state, of_no_step, of_query, is_new, HasNumbers, IsNamedIn, IsReadAs, IsWritableGoal, is_seen, ask_well_put, NameNoneOf, asked_of, called, called_by, called_length, named_so, written_askable, written_firsts, AreNewInOrder, SaysGoals, CanBeAsked}
use Rattle.ghc_fire.specs.Effect.{no_step}
use Rattle.ghc_records.proofs.ReplacedGoals.{goals_stay}
use Rattle.ghc_records.proofs.WritableGoals.{goals_have}
use Rattle.ghc_records.proofs.WrittenAsks.{named_same}

-- ---- lists

pub each_at : {X Y : Type 0} (R : X → Y → Type 0) (xs : List X) (ys : List Y) (i : ℕ) (x : X) → Each R xs ys → slice_get xs i ≡ Some x → (y : Y) × (slice_get ys i ≡ Some y) × R x y
each_at R [] [] i x h e = cc
each_at R (z ∷ xs) (y ∷ ys) zero x h e = let same : z ≡ x = cc in (y, refl, subst (λ w. R w y) same h.0)
each_at R (z ∷ xs) (y ∷ ys) (suc i) x h e = each_at R xs ys i x h.1 e
each_at R xs ys i x h e = absurd h

-- each once, they are no more
pub fewer : (seen xs : List VarName) → length (firsts seen xs) ≤ length xs
fewer seen [] = omega arith
fewer seen (x ∷ xs) = elim (is_seen x seen) as (λ b. length (cond b (firsts seen xs) (x ∷ firsts (x ∷ seen) xs)) ≤ suc (length xs)) [
  | true ↦ omega (arith, fewer seen xs)
  | false ↦ omega (arith, fewer (x ∷ seen) xs)
]

called_at : (k i : ℕ) (os : List (Option VarName)) (y : VarName) → slice_get os i ≡ Some (Some y) → slice_get (called k os) i ≡ Some (named_so y)
called_at k i [] y e = cc
called_at k zero (None ∷ os) y e = cc
called_at k zero (Some x ∷ os) y e = let same : x ≡ y = cc in ap (λ z. Some (named_so z)) same
called_at k (suc i) (None ∷ os) y e = called_at (k + 1) i os y e
called_at k (suc i) (Some x ∷ os) y e = called_at k i os y e

-- ---- what a name names

-- the variable of a state has numbers, and is none of no step
record IsOfAStep (y : VarName) : Type 0 where
  numbers : HasNumbers y
  step : y.step ≢ no_step

-- what is named, as it is called in an ask
record IsNamedAs (o : Option VarName) : Type 0 where
  named : VarName
  is : o ≡ Some named
  fits : IsOfAStep (named_so named)

of_a_step : (y : VarName) → HasNumbers y → y.step ≢ no_step → IsNamedAs (Some y)
of_a_step y numbers other = record { named = y; is = refl; fits = subst IsOfAStep (sym (named_same y other)) (record { numbers = numbers; step = other }) }

named_by : (v : List ℕ) (o : Option VarName) → IsNaming [] v o → o ≢ None → IsNamedAs o
named_by v o (of_state {n = n} {m = m} numbered other) some = of_a_step (record { step = n; place = m }) (record { step = numbered.1; place = numbered.2 }) other
named_by v o (of_no_step {m = m} numbered) some = of_a_step (record { step = 0; place = 0 }) (record { step = omega arith; place = omega arith }) (λ e. omega (arith, e))
named_by v o (of_query i unnumbered other at) some = cc
named_by v o (is_new unnumbered fresh) some = absurd (some refl)

-- ---- goals

module _ (writable : (names : Names) (text : List ℕ) (gs : List Goal) → IsReadAs (IsCalled names) text gs → (g : Goal) → In g gs → IsWritableGoal (IsNamedIn names) g) (text : List ℕ) (gs : List Goal) (says : SaysGoals text gs) where
  abbrev ask : WrittenAsk
  ask = says.0

  abbrev names : Names
  names = says.1.2.names

  abbrev ys : List VarName
  ys = called 1 ask.named

  put : IsWellPut ask
  put = ask_well_put [] says.1.0 ask says.1.1.within says.1.2

  source_writable : (g : Goal) → In g ask.goals → IsWritableGoal (IsNamedIn names) g
  source_writable g i = writable names text ask.goals (says.1.0, says.1.1, says.1.2.goals) g i

  becomes : (x : VarName) → IsNamedIn names x → (y : VarName) × (called_by ys x ≡ variable y) × IsOfAStep y
  becomes x (v, (i, at, is)) =
      let k = each_at (IsNaming []) names ask.named i v says.1.2.named at in
      let n = named_by v k.0 k.2 (λ e. says.2 (in_at ask.named i None (k.1 ∙ ap Some e))) in
      let place : x.place - 1 ≡ i = omega (arith, ap (λ (y : VarName). y.place) is) in
      (named_so n.named, ap variable (ap (λ o. unwrap_or o x) (ap (slice_get ys) place ∙ called_at 1 i ask.named n.named (k.1 ∙ ap Some n.is))), n.fits)

  each_writable : (g : Goal) → In g gs → IsWritableGoal HasNumbers g
  each_writable g i =
      goals_stay (IsNamedIn names) HasNumbers (called_by ys) (λ x h. let k = becomes x h in (k.0, k.1, k.2.numbers)) ask.goals source_writable g (subst (In g) says.3 i)

  none_of_no_step : NameNoneOf no_step gs
  none_of_no_step x i =
      goals_have (λ y. y.step ≢ no_step) x gs
      (λ g j. goals_stay (IsNamedIn names) (λ y. y.step ≢ no_step) (called_by ys) (λ z h. let k = becomes z h in (k.0, k.1, k.2.step)) ask.goals source_writable g (subst (In g) says.3 j)) i

  are_limited : IsWithinLimits gs (length (firsts [] (variables_of_goals gs)))
  are_limited =
      let askable = written_askable ask put in
      let few : length (firsts [] (variables_of_goals (asked_of ask))) ≤ 1000 = omega (arith, ap length (written_firsts ask put), fewer [] ys, called_length 1 ask.named, put.limited.variables) in
      subst (λ hs. IsWithinLimits hs (length (firsts [] (variables_of_goals hs)))) (sym says.3) (record { goals = askable.few; variables = few; arguments = askable.narrow })

  pub can_be_asked : (n : ℕ) → AreNewInOrder n gs → CanBeAsked n gs
  can_be_asked n new = record { writable = each_writable; limited = are_limited; of_steps = none_of_no_step; new = new; shallow = says.5 }
