-- What is read as asked for in mid-run a text can ask for, as step n does.
use Rattle.ghcdb.proofs.CitedWords.{◌≡◌, ◌+◌, ◌-◌, ◌<◌, ◌≤◌, ℕ, zero, suc, List, [], ◌∷◌, length, inl, inr, refl, sym, ap, ◌∙◌, subst, arith, Option, None, Some, In}
use Rattle.std.specs.Prelude.{◌≢◌, slice_get, unwrap_or}
use Rattle.std.proofs.lemmas.Bool.Decides.{eqb_tells}
use Rattle.std.proofs.lemmas.List.{length-map}
use Rattle.std.proofs.lemmas.Option.{slice_get_within}
use Rattle.ghc_term.specs.declared.var_name.VarName.{VarName}
use Rattle.ghc_term.specs.Goal.{Goal}
use Rattle.ghc_term.specs.Tree.{variable}
use Rattle.ghc_term.specs.Variables.{variables_of_goals, firsts}
use Rattle.ghc_reader.specs.Lowered.{Names}
use Rattle.ghc_reader.specs.PrintedGoals.{HasNumbers, IsNamedIn, IsWritableGoal}
use Rattle.ghc_reader.specs.Read.{IsReadAsk}
use Rattle.ghc_reader.specs.Written.{IsWithinLimits}
use Rattle.ghc_reader.specs.WrittenAsk.{IsNaming, IsWellPut, WrittenAsk, is_new, of_no_step, of_query, of_state}
use Rattle.ghc_reader.proofs.AskReadings.{within_query}
use Rattle.ghc_reader.proofs.PrintedAgain.{asked_is_body}
use Rattle.ghc_reader.proofs.SoundGoals.{read_writable}
use Rattle.ghc_reader.proofs.WithinLimits.{ask_well_put}
use Rattle.ghc_fire.specs.Asked.{AreAskable, NameNoneOf, asked_as, asked_of, called, called_by, named_so, renumbered}
use Rattle.ghc_fire.specs.Effect.{no_step}
use Rattle.ghc_fire.specs.Instance.{made}
use Rattle.ghc_fire.specs.Proposal.{numbered}
use Rattle.ghc_fire.proofs.Asking.{called_length, numbered_firsts, replaced_askable, written_askable, written_firsts}
use Rattle.ghc_records.specs.ChronicleLaws.{CanBeAsked}
use Rattle.ghc_records.specs.EntryText.{AreNewInOrder, OpensFew}
use Rattle.ghc_records.specs.Numbers.{number_limit}
use Rattle.ghc_records.specs.StepText.{body_text}
use Rattle.ghc_records.proofs.ReplacedGoals.{goals_stay}
use Rattle.ghc_records.proofs.WritableGoals.{goals_have}
use Rattle.ghc_records.proofs.WrittenAsks.{named_same}
use Rattle.ghcdb.proofs.BracketTexts.{as_deep, opens_few}
use Rattle.ghcdb.proofs.BracketTokens.{asked_shallow}
use Rattle.ghc_records.proofs.ToldAsks.{each_at, fewer}

-- ---- lists

-- ---- what a name names

-- one that is named is called so; a new one is made, by no step, at a place that is no further than its own
record IsCalledFor (k i : ℕ) (o : Option VarName) (y : VarName) : Type 0 where
  named : (x : VarName) → o ≡ Some x → y ≡ named_so x
  fresh : o ≡ None → (y.step ≡ no_step) × (y.place ≤ k + i)

called_at : (k i : ℕ) (os : List (Option VarName)) (o : Option VarName) → slice_get os i ≡ Some o → (y : VarName) × (slice_get (called k os) i ≡ Some y) × IsCalledFor k i o y
called_at k i [] o e = cc
called_at k zero (None ∷ os) o e = let same : None ≡ o = cc in (made no_step k, refl, record { named = λ x n. (let clash : None ≡ Some x = same ∙ n in cc); fresh = λ n. (refl, omega arith) })
called_at k zero (Some z ∷ os) o e = let same : Some z ≡ o = cc in (named_so z, refl, record { named = λ x n. (let is : z ≡ x = (let both : Some z ≡ Some x = same ∙ n in cc) in ap named_so is); fresh = λ n. (let clash : Some z ≡ None = same ∙ n in cc) })
called_at k (suc i) (None ∷ os) o e =
    let q = called_at (k + 1) i os o e in
    (q.0, q.1, record { named = q.2.named; fresh = λ n. (let f = q.2.fresh n in (f.0, omega (arith, f.1))) })
called_at k (suc i) (Some z ∷ os) o e =
    let q = called_at k i os o e in
    (q.0, q.1, record { named = q.2.named; fresh = λ n. (let f = q.2.fresh n in (f.0, omega (arith, f.1))) })

same_numbers : (x y : VarName) → y ≡ named_so x → x.step ≢ no_step → HasNumbers x → HasNumbers y
same_numbers x y is other numbers = subst HasNumbers (sym (is ∙ named_same x other)) numbers

-- what is named has numbers of 32 bits
has_numbers : (query : Names) (v : List ℕ) (o : Option VarName) (i : ℕ) (y : VarName) → length query ≤ 1000 → i ≤ 1000 → IsNaming query v o → IsCalledFor 1 i o y → HasNumbers y
has_numbers query v o i y short low (of_state {n = n} {m = m} numbers other) called =
    same_numbers (made n m) y (called.named (made n m) refl) other (record { step = numbers.1; place = numbers.2 })
has_numbers query v o i y short low (of_no_step {m = m} numbers) called = same_numbers (made 0 0) y (called.named (made 0 0) refl) (λ e. omega (arith, e)) (record { step = omega arith; place = omega arith })
has_numbers query v o i y short low (of_query j unnumbered other at) called =
    let within = slice_get_within query j v at in
    same_numbers (made 0 (j + 1)) y (called.named (made 0 (j + 1)) refl) (λ e. omega (arith, e)) (record { step = omega arith; place = omega (arith, within, short) })
has_numbers query v o i y short low (is_new unnumbered fresh) called = let f = called.fresh refl in record { step = omega (arith, f.0); place = omega (arith, f.1, low) }

-- ---- the goals of an ask, as they are asked for, and as step n asks for them

module _ (query : Names) (text : List ℕ) (a : WrittenAsk) (n : ℕ) (short : length query ≤ 1000) (read : IsReadAsk query text a) (low : n < number_limit) where
  abbrev names : Names
  names = read.2.names

  abbrev ys : List VarName
  ys = called 1 a.named

  put : IsWellPut a
  put = ask_well_put query read.0 a (within_query read.0 read.1.within) read.2

  source_writable : (g : Goal) → In g a.goals → IsWritableGoal (IsNamedIn names) g
  source_writable g i = read_writable names text a.goals (read.0, asked_is_body text read.0 read.1, read.2.goals) g i

  becomes : (x : VarName) → IsNamedIn names x → (y : VarName) × (called_by ys x ≡ variable y) × HasNumbers y
  becomes x (v, (i, at, is)) =
      let k = each_at (IsNaming query) names a.named i v read.2.named at in
      let c = called_at 1 i a.named k.0 k.1 in
      let place : x.place - 1 ≡ i = omega (arith, ap (λ (y : VarName). y.place) is) in
      let within = slice_get_within a.named i k.0 k.1 in
      (c.0, ap variable (ap (λ o. unwrap_or o x) (ap (slice_get ys) place ∙ c.1)), has_numbers query v k.0 i c.0 short (omega (arith, within, put.limited.variables)) k.2 c.2)

  one_writable : (g : Goal) → In g (asked_of a) → IsWritableGoal HasNumbers g
  one_writable = goals_stay (IsNamedIn names) HasNumbers (called_by ys) becomes a.goals source_writable

  -- as step n has them
  renumbers : (x : VarName) → HasNumbers x → (y : VarName) × (numbered n x ≡ variable y) × (HasNumbers y × (y.step ≢ no_step))
  renumbers x numbers = elim (eqb_tells x.step no_step) [
    | inl (e, p) ↦ (made n x.place, rw e refl, (record { step = omega (arith, low); place = numbers.place }, λ s. omega (arith, low, s)))
    | inr (e, p) ↦ (x, rw e refl, (numbers, p))
  ]

  two_writable : (g : Goal) → In g (asked_as n (asked_of a)) → IsWritableGoal HasNumbers g
  two_writable = goals_stay HasNumbers HasNumbers (numbered n) (λ x h. let k = renumbers x h in (k.0, k.1, k.2.0)) (asked_of a) one_writable

  of_steps : NameNoneOf no_step (asked_as n (asked_of a))
  of_steps x i =
      goals_have (λ y. y.step ≢ no_step) x (asked_as n (asked_of a))
      (goals_stay HasNumbers (λ y. y.step ≢ no_step) (numbered n) (λ z h. let k = renumbers z h in (k.0, k.1, k.2.1)) (asked_of a) one_writable) i

  limited : NameNoneOf n (asked_of a) → IsWithinLimits (asked_as n (asked_of a)) (length (firsts [] (variables_of_goals (asked_as n (asked_of a)))))
  limited none =
      let one : AreAskable (asked_of a) = written_askable a put in
      let two : AreAskable (asked_as n (asked_of a)) = replaced_askable (numbered n) (asked_of a) one in
      let many = ap length (numbered_firsts (asked_of a) n none one.plain) in
      let few : length (firsts [] (variables_of_goals (asked_as n (asked_of a)))) ≤ 1000 =
      omega (arith, many, length-map (firsts [] (variables_of_goals (asked_of a))) (renumbered n), ap length (written_firsts a put), fewer [] ys, called_length 1 a.named, put.limited.variables) in
      record { goals = two.few; variables = few; arguments = two.narrow }

  shallow : OpensFew (body_text (asked_as n (asked_of a)))
  shallow =
      let one = as_deep (IsNamedIn names) (called_by ys) (λ x h. let k = becomes x h in (k.0, k.1)) 1000 a.goals source_writable (asked_shallow query text a read) in
      let two = as_deep HasNumbers (numbered n) (λ x h. let k = renumbers x h in (k.0, k.1)) 1000 (asked_of a) one_writable one in
      opens_few (asked_as n (asked_of a)) two_writable two

  pub can_be_asked : NameNoneOf n (asked_of a) → AreNewInOrder n (asked_as n (asked_of a)) → CanBeAsked n (asked_as n (asked_of a))
  can_be_asked none new = record { writable = two_writable; limited = limited none; of_steps = of_steps; new = new; shallow = shallow }
