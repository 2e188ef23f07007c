-- Clauses that say yes without a step and its consequences: those that say yes now, and read nothing that rests on the step.
use Rattle.ghc_trace.proofs.Words.{◌≡◌, ℕ, suc, ◌+◌, ◌<◌, Bool, true, false, not, IsTrue, List, [], ◌∷◌, length, get_or, refl, sym, subst, inl, inr, arith, ◌↔◌, Option, Some, None, VarName, Tree, In, in_get, in_contains, is_member, has_member, call, State, Record, numbers, record_once, AreDistinct, SlotList, held_in, stands_held, StandsIn, HasNumberIn, value_at, Picks, nothing, picks_in, picks_has, IsBoundIn, IsWithoutSteps, World, IsStanding, IsReplay, reached_good, Variables}
use Rattle.std.specs.Prelude.{IfNone, IsSome}
use Rattle.std.specs.FinSet as set
use Rattle.std.specs.List.{AllPairs}
use Rattle.std.specs.List.Sorted.{IsStrictlyIncreasing}
use Rattle.std.proofs.lemmas.List.Kept.{AllPairs-cons, AllPairs-from_increasing}
use Rattle.ghc_term.specs.Sets.{IsSetOf}
use Rattle.ghc_flat.specs.Clause.{Clause, IsClause, IsFor}
use Rattle.ghc_flat.specs.Numbers.{AreNumbersFor}
use Rattle.ghc_match.specs.Match.{Accepts, LooksAt}
use Rattle.ghc_match.proofs.LooksAt.{looks_back}
use Rattle.ghc_match.proofs.Outcomes.{accepts_there}
use Rattle.ghc_fire.proofs.Steps.{clause_once, looked_bound}
use Rattle.ghc_fire.specs.declared.act.Act.TheVariants.{ByClause as by_clause}
use Rattle.ghc_records.specs.Orders.{take as taken, leave}
use Rattle.ghc_depend.proofs.Finding.{not_both}
use Rattle.ghc_depend.proofs.Undoing.{rolled}
use Rattle.ghc_depend.specs.Kept.{IsSplitAt}
use Rattle.ghc_trace.specs.OtherClauses.{SaysYesTo, CouldBe, AreOtherClauses}
use Rattle.ghc_trace.specs.inner.OtherClausesCode.{OneRestsOn, AcceptsWithout}

module _ (w : World) (r : Record) (gone left : List Record) (t : State) (split : IsSplitAt w.kept r gone left) (without : IsWithoutSteps gone w.state t) (c : Clause) (ts : List Tree) where
  abbrev S : VarName → Option Tree
  S = value_at w.state.store

  abbrev T : VarName → Option Tree
  T = value_at t.store

  -- nothing that is looked at rests on the steps gone
  abbrev pub IsApart : Type 0
  IsApart = (x : VarName) → LooksAt c ts (value_at w.state.store) x → ¬ IsBoundIn gone x

  module _ (accepts : Accepts c ts T) where
    still : (x : VarName) → LooksAt c ts T x → ¬ IsBoundIn gone x
    still x l i = let b = looked_bound c ts T x accepts l in not_both b.1 (without.unbound x i)

    as_there : (x : VarName) → LooksAt c ts T x → S x ≡ T x
    as_there x l = sym (without.bound x (still x l))

    -- a yes stays a yes with more bindings, and reads what it read
    pub yes_now : Accepts c ts S × IsApart
    yes_now = (accepts_there c ts T S as_there accepts, λ x l. still x (looks_back c ts T S as_there x l))

  pub yes_without : Accepts c ts S → IsApart → Accepts c ts T
  yes_without accepts apart = accepts_there c ts S T (λ x l. without.bound x (apart x l)) accepts

  -- what rests on the step, and what the steps gone bound
  module _ (read : Variables) (xs : List VarName) (all : set.from_list xs ≡ read) (is : IsSetOf read (LooksAt c ts S)) where
    pub apart_of : ¬ OneRestsOn w.kept r xs → IsApart
    apart_of none x l b =
        let g = picks_in w.kept gone b.0 split.0 b.1 in
        none (x, b.0, is_member read xs all x ((is x).1 l), g.0, g.1, b.2)

    pub of_apart : IsApart → ¬ OneRestsOn w.kept r xs
    of_apart apart o = elim (picks_has w.kept gone o.1 split.0 o.3) [
      | inl i ↦ apart o.0 ((is o.0).0 (has_member read xs all o.0 o.2)) (o.1, i, o.5)
      | inr n ↦ n o.4
    ]

-- a test that was turned round
turned : (rests : Bool) {P Q : Type 0} → (IsTrue rests ↔ P) → (Q → ¬ P) → (¬ P → Q) → IsTrue (not rests) ↔ Q
turned true h to back = (λ e. absurd (let clash : false ≡ true = e in cc), λ q. absurd (to q (h.0 refl)))
turned false h to back = (λ _. back (λ p. let clash : false ≡ true = h.1 p in cc), λ _. refl)

module _ (w : World) (stands : IsStanding w) (replay : IsReplay w w.kept w.state) (r : Record) (i : In r w.kept) (c : Clause) (ts : List Tree) where
  -- where the clause does not accept now, it does not without the step
  pub no_without : ¬ Accepts c ts (value_at w.state.store) → ¬ AcceptsWithout w r c ts
  no_without not_now a =
      let at = a.1 in
      not_now (yes_now w r at.0 at.1 a.0 at.2 at.3 c ts a.2).0

  -- where it does, it is the question what it reads
  pub yes_where : Accepts c ts (value_at w.state.store) → (read : Variables) (xs : List VarName) → set.from_list xs ≡ read → IsSetOf read (LooksAt c ts (value_at w.state.store))
      → (rests : Bool) → (IsTrue rests ↔ OneRestsOn w.kept r xs) → IsTrue (not rests) ↔ AcceptsWithout w r c ts
  yes_where accepts read xs all is rests told = turned rests told
      (λ a. let at = a.1 in of_apart w r at.0 at.1 a.0 at.2 at.3 c ts read xs all is (yes_now w r at.0 at.1 a.0 at.2 at.3 c ts a.2).1)
      (λ none.
      let good = reached_good stands in
      let u = rolled w.opening.program w.opening.query w.kept w.state r good.accepted good.asked replay i in
      (u.2, (u.0, u.1, u.3, u.5), yes_without w r u.0 u.1 u.2 u.3 u.5 c ts accepts (apart_of w r u.0 u.1 u.2 u.3 u.5 c ts read xs all is none)))

module _ (w : World) (r : Record) (f : List ℕ) (ts : List Tree) (called : r.consumed ≡ Some (call f ts)) (k : ℕ) (c : Clause) (ic : IsClause w.opening.program k c) where
  -- a clause for the call could be, where it accepts without the step
  pub could_by : IsFor f ts c → ¬ (r.act ≡ by_clause k) → AcceptsWithout w r c ts ↔ CouldBe w r k
  could_by for other = (
    λ a. (other, (a.0, a.1, subst (λ o. SaysYesTo w.opening.program (value_at a.0.store) o k) (sym called) (c, ic, for, a.2))),
    λ b.
        let y : SaysYesTo w.opening.program (value_at b.1.0.store) (Some (call f ts)) k = subst (λ o. SaysYesTo w.opening.program (value_at b.1.0.store) o k) called b.1.2 in
        (b.1.0, b.1.1, subst (λ d. Accepts d ts (value_at b.1.0.store)) (clause_once w.opening.program y.1 ic) y.3),
  )

-- what is kept has a place
pub has_place : (kept : List Record) (o : Option ℕ) (n : ℕ) → IfNone o ((r : Record) → In r kept → ¬ (r.number ≡ n)) → (r : Record) → In r kept → r.number ≡ n → IsSome o
has_place kept None n none r i e = absurd (none r i e)
has_place kept (Some p) n none r i e = refl

pub its_place : (ss : SlotList) → AreDistinct (numbers (held_in ss)) → (r : Record) → In r (held_in ss) → (p : ℕ) → HasNumberIn ss p r.number → StandsIn ss p r
its_place ss distinct r i p h = subst (StandsIn ss p) (record_once (held_in ss) h.0 r distinct (stands_held ss p h.0 h.1) i h.2) h.1

-- picked of rising numbers are rising numbers
picked_pairs : {P : ℕ → Type 0} (xs ys : List ℕ) → Picks P xs ys → AllPairs (λ a b. a < b) xs → AllPairs (λ a b. a < b) ys
picked_pairs [] ys nothing h = h
picked_pairs (x ∷ xs) _ (taken {ys = ys} q p) h =
    let rest = picked_pairs xs ys p (λ i j d low within. h (suc i) (suc j) d (omega (arith, low)) (omega (arith, within))) in
    let above : (y : ℕ) → In y xs → x < y = λ y i. (let at = in_contains xs y i in subst (λ z. x < z) at.2 (h 0 (suc at.0) y (omega arith) (let within = at.1 in omega (arith, within)))) in
    AllPairs-cons (λ a b. a < b) x ys (λ k d within. above (get_or ys k d) (picks_in xs ys (get_or ys k d) p (in_get ys k d within)).0) rest
picked_pairs (x ∷ xs) ys (leave n p) h = picked_pairs xs ys p (λ i j d low within. h (suc i) (suc j) d (omega (arith, low)) (omega (arith, within)))

picked_rise : {P : ℕ → Type 0} (xs ys : List ℕ) → Picks P xs ys → IsStrictlyIncreasing xs → IsStrictlyIncreasing ys
picked_rise xs ys p h k within = picked_pairs xs ys p (AllPairs-from_increasing xs h) k (k + 1) 0 (omega arith) within

module _ (w : World) (r : Record) where
  -- of the clauses for the call those that could be are all that could be
  pub all_others : (f : List ℕ) (ts : List Tree) → r.consumed ≡ Some (call f ts) → (ks told : List ℕ) → AreNumbersFor w.opening.program f (length ts) ks → Picks (CouldBe w r) ks told → AreOtherClauses w r told
  all_others f ts called ks told numbers picked = record {
    «exactly» = λ k. (
      λ i. (picks_in ks told k picked i).1,
      λ b.
          let y : SaysYesTo w.opening.program (value_at b.1.0.store) (Some (call f ts)) k = subst (λ o. SaysYesTo w.opening.program (value_at b.1.0.store) o k) called b.1.2 in
          elim (picks_has ks told k picked ((numbers.«exactly» k).1 (y.0, y.1, y.2.0, y.2.1))) [ inl i ↦ i | inr n ↦ absurd (n b) ],
    );
    rising = picked_rise ks told picked numbers.increasing;
  }
