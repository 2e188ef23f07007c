-- From the verdicts of clauses to the answer of a call.
use Rattle.ghc_fire.proofs.Words.{◌≡◌, ℕ, suc, Bool, true, false, ◌+◌, ◌<◌, List, [], ◌∷◌, ◌++◌, length, take, append_assoc, append-nil, slice_index, slice_index_or, refl, sym, ap, ◌∙◌, subst, ◌⊎◌, inl, inr, arith, Option, Some, None, IsSome, IfNone, IsStrictlyIncreasing, get_or_default, take_more, AllPairs-from_increasing, VarName, NoClause, Waits, NoMatch, Tree, In, in_contains, in_get, in_left, in_last, in_middle, in_more, Clause, Program, IsClause, IsFor, AreNumbersFor, AreNumbersWith, FirstEnds, Accepts, Refuses, WaitsFor, refuses_waits, accepts_refuses, accepts_waits, ByClause as by_clause, Effect, no_step, proposes, refused, SomeAccepts, CallAnswers, ChoiceAnswers, HasVerdict}
use Rattle.ghc_fire.specs.declared.calls.Verdict.TheVariants as verdict
use Rattle.ghc_flat.proofs.Numbers.{clause_once}
use Rattle.ghc_match.proofs.FirstClash.{begins_otherwise}

-- in a list that goes up, what comes later is above
all_above : (k : ℕ) (rest : List ℕ) → IsStrictlyIncreasing (k ∷ rest) → (j : ℕ) → In j rest → k < j
all_above k rest up j h =
    let m = in_contains rest j h in
    let there : slice_index_or rest m.0 0 ≡ j = get_or_default rest m.0 0 j m.1 ∙ m.2 in
    let climbs : k < slice_index_or rest m.0 0 = AllPairs-from_increasing (k ∷ rest) up 0 (suc m.0) 0 (omega arith) (omega (arith, m.1)) in
    omega (arith, climbs, there)

later_increasing : (k : ℕ) (ks : List ℕ) → IsStrictlyIncreasing (k ∷ ks) → IsStrictlyIncreasing ks
later_increasing k ks up i l =
    let same : suc i + 1 ≡ suc (i + 1) = omega arith in
    subst (λ m. slice_index ks i < slice_index (k ∷ ks) m) same (up (suc i) (omega (arith, l)))

-- and a lower number stands before
lower_before : (done : List ℕ) (k : ℕ) (rest : List ℕ) (j : ℕ) → IsStrictlyIncreasing (done ++ k ∷ rest) → j < k → In j (done ++ k ∷ rest) → In j done
lower_before [] k rest j up lower (inl e) = absurd (omega (arith, lower, e))
lower_before [] k rest j up lower (inr i) = let above = all_above k rest up j i in absurd (omega (arith, lower, above))
lower_before (d ∷ done) k rest j up lower (inl e) = inl e
lower_before (d ∷ done) k rest j up lower (inr i) = inr (lower_before done k rest j (later_increasing d (done ++ k ∷ rest) up) lower i)

module _ (P : Program) (f : List ℕ) (ts : List Tree) (S : VarName → Option Tree) where
  -- one of the clauses of these numbers waits
  abbrev pub OneWaits : List ℕ → Type 0
  OneWaits ks = (k : ℕ) × (c : Clause) × In k ks × IsClause P k c × ((x : VarName) × WaitsFor c ts S x)

  -- of the clauses of these numbers none accepts, and w says whether one waits
  pub record NoneTaken (ks : List ℕ) (w : Bool) : Type 0 where
    pub none : (k : ℕ) (c : Clause) → In k ks → IsClause P k c → ¬ Accepts c ts S
    pub waits : w ≡ true → OneWaits ks
    pub idle : w ≡ false → ¬ OneWaits ks

  -- one more that does not accept
  none_more : (ks : List ℕ) (w : Bool) (k : ℕ) (c : Clause) → NoneTaken ks w → IsClause P k c → (¬ Accepts c ts S) → (j : ℕ) (d : Clause) → In j (ks ++ k ∷ []) → IsClause P j d → ¬ Accepts d ts S
  none_more ks w k c n ic not j d i id a = elim (in_more ks k j i) [
    | inl h ↦ n.none j d h id a
    | inr e ↦ not (subst (λ z. Accepts z ts S) (clause_once P (subst (λ z. IsClause P z d) e id) ic) a)
  ]

  pub one_refuses : (ks : List ℕ) (w : Bool) (k : ℕ) (c : Clause) → NoneTaken ks w → IsClause P k c → Refuses c ts S → NoneTaken (ks ++ k ∷ []) w
  one_refuses ks w k c n ic r = record {
    none = none_more ks w k c n ic (λ a. accepts_refuses c ts S a r);
    waits = λ e. let o = n.waits e in (o.0, o.1, in_left ks (k ∷ []) o.0 o.2, o.3, o.4);
    idle = λ e o. elim (in_more ks k o.0 o.2) [
      | inl h ↦ n.idle e (o.0, o.1, h, o.3, o.4)
      | inr s ↦ let same = clause_once P (subst (λ z. IsClause P z o.1) s o.3) ic in refuses_waits c ts S r o.4.0 (subst (λ z. WaitsFor z ts S o.4.0) same o.4.1)
    ];
  }

  pub one_waits : (ks : List ℕ) (w : Bool) (k : ℕ) (c : Clause) → NoneTaken ks w → IsClause P k c → ((x : VarName) × WaitsFor c ts S x) → NoneTaken (ks ++ k ∷ []) true
  one_waits ks w k c n ic o = record {
    none = none_more ks w k c n ic (λ a. accepts_waits c ts S a o.0 o.1);
    waits = λ e. (k, c, in_last ks k, ic, o);
    idle = λ e. cc;
  }

  -- Of the clauses that a call with the first argument `end` can have, the last ones are left; of those before none accepts, and w says whether one waits.
  pub record Tried (left : List ℕ) (w : Bool) : Type 0 where
    pub end : Option Tree
    pub ends : FirstEnds S ts end
    pub all : List ℕ
    pub numbers : AreNumbersWith P f (length ts) end all
    pub done : List ℕ
    pub splits : all ≡ done ++ left
    pub taken : NoneTaken done w

  none_yet : NoneTaken [] false
  none_yet = record { none = λ k c i. absurd i; waits = λ e. cc; idle = λ e o. o.2 }

  pub tried_nothing : (e : Option Tree) (ks : List ℕ) → FirstEnds S ts e → AreNumbersWith P f (length ts) e ks → Tried ks false
  tried_nothing e ks ends numbers = record { end = e; ends = ends; all = ks; numbers = numbers; done = []; splits = refl; taken = none_yet }

  module _ (left : List ℕ) (w : Bool) (t : Tried left w) where
    -- a clause for the call is among them, or refuses
    among : (k : ℕ) (c : Clause) → IsClause P k c → IsFor f ts c → In k t.all ⊎ Refuses c ts S
    among k c ic is = elim (t.numbers.complete k c ic is.0 is.1) [ inl i ↦ inl i | inr b ↦ inr (begins_otherwise c t.end b ts S t.ends) ]

    -- the next of them
    module _ (k : ℕ) (rest : List ℕ) (e : left ≡ k ∷ rest) where
      split : t.all ≡ t.done ++ k ∷ rest
      split = t.splits ∙ ap (λ l. t.done ++ l) e

      pub next_for : (c : Clause) × IsClause P k c × IsFor f ts c
      next_for = let found = t.numbers.sound k (subst (In k) (sym split) (in_middle t.done k rest)) in (found.0, found.1, (found.2, found.3))

      tried_next : (v : Bool) → NoneTaken (t.done ++ k ∷ []) v → Tried rest v
      tried_next v n = record { end = t.end; ends = t.ends; all = t.all; numbers = t.numbers; done = t.done ++ k ∷ []; splits = split ∙ sym (append_assoc t.done (k ∷ []) rest); taken = n }

      pub next_refuses : (c : Clause) → IsClause P k c → Refuses c ts S → Tried rest w
      next_refuses c ic r = tried_next w (one_refuses t.done w k c t.taken ic r)

      pub next_waits : (c : Clause) → IsClause P k c → ((x : VarName) × WaitsFor c ts S x) → Tried rest true
      next_waits c ic o = tried_next true (one_waits t.done w k c t.taken ic o)

      -- the first that accepts is the least
      pub least_reduces : (m : ℕ) (c : Clause) (g : Effect) → IsClause P k c → IsFor f ts c → HasVerdict m c ts S (verdict.Reduces g) → CallAnswers m P f ts S (proposes (by_clause k) g)
      least_reduces m c g ic is v =
          CallAnswers.by_least (
            (c, ic, is, v.0),
            λ j d less id for a. elim (among j d id for) [
              | inl i ↦ t.taken.none j d (lower_before t.done k rest j (subst IsStrictlyIncreasing split t.numbers.increasing) less (subst (In j) split i)) id a
              | inr r ↦ accepts_refuses d ts S a r
            ],
          )
          (v.1 P f k ic is)

    -- where none is left, none is taken, and the call waits if one of them does
    all_done : left ≡ [] → t.all ≡ t.done
    all_done e = t.splits ∙ ap (λ l. t.done ++ l) e ∙ append-nil t.done

    nobody : left ≡ [] → ¬ SomeAccepts P f ts S
    nobody e a = elim (among a.0 a.1 a.2 a.3) [
      | inl i ↦ t.taken.none a.0 a.1 (subst (In a.0) (all_done e) i) a.2 a.4
      | inr r ↦ accepts_refuses a.1 ts S a.4 r
    ]

    pub all_wait : left ≡ [] → w ≡ true → CallAnswers no_step P f ts S (refused Waits)
    all_wait e y =
        let o = t.taken.waits y in
        let found = t.numbers.sound o.0 (subst (In o.0) (sym (all_done e)) o.2) in
        let is : IsFor f ts o.1 = subst (IsFor f ts) (clause_once P found.1 o.3) (found.2, found.3) in
        CallAnswers.waits (nobody e) (o.0, o.1, o.3, is, o.4.1)

    pub all_refuse : left ≡ [] → w ≡ false → CallAnswers no_step P f ts S (refused NoMatch)
    all_refuse e y = CallAnswers.no_match (nobody e) (λ x s. elim (among s.0 s.1 s.2 s.3) [
      | inl i ↦ t.taken.idle y (s.0, s.1, subst (In s.0) (all_done e) i, s.2, (x, s.4))
      | inr r ↦ refuses_waits s.1 ts S r x s.4
    ])

-- where a clause has the number chosen and is for the call, the answer is not that there is none
pub has_clause : (P : Program) (f : List ℕ) (ts : List Tree) (S : VarName → Option Tree) (k : ℕ) (c : Clause) → IsClause P k c → IsFor f ts c → ¬ ChoiceAnswers no_step P f ts k S (refused NoClause)
has_clause P f ts S k c ic is (ChoiceAnswers.no_clause none) = none c ic is

-- a number in the index is that of a clause for the call
pub numbered_for : (P : Program) (f : List ℕ) (n : ℕ) (ks : List ℕ) → AreNumbersFor P f n ks → (i k : ℕ) → i < length ks → slice_index_or ks i 0 ≡ k → (c : Clause) × IsClause P k c × (c.name ≡ f) × (length c.head ≡ n)
numbered_for P f n ks numbers i k l e = (numbers.«exactly» k).0 (subst (λ j. In j ks) e (in_get ks i 0 l))

-- one number more is looked at
pub take_number : (ks : List ℕ) (i : ℕ) → i < length ks → take i ks ++ slice_index_or ks i 0 ∷ [] ≡ take (i + 1) ks
take_number ks i l = sym (take_more ks i 0 l)

-- what is there is found
pub some_there : {X Y : Type 0} (R : Y → Type 0) (o : Option X) → IfNone o ((y : Y) → ¬ R y) → (y : Y) → R y → IsSome o
some_there R None none y r = absurd (none y r)
some_there R (Some x) none y r = refl
