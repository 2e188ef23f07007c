-- The calls of a slice are few, since each but one was taken by a step of its own number.
use Rattle.ghc_trace.proofs.Words.{◌≡◌, ℕ, zero, suc, ◌+◌, ◌<◌, ◌≤◌, List, [], ◌∷◌, ◌++◌, length, refl, sym, ap, ◌∙◌, subst, inl, inr, arith, Option, Some, None, GoalName, In, in_either, in_left, in_right, Program, Query, State, Record, numbers, AreDistinct, Replays}
use Rattle.std.proofs.Common.{length-append}
use Rattle.std.proofs.lemmas.Bool.{cases_eq}
use Rattle.std.proofs.lemmas.List.{length-map}
use Rattle.ghc_records.proofs.OrderLemmas.{number_of}
use Rattle.ghc_records.specs.Numbers.{number_limit}
use Rattle.ghc_term.proofs.ListsLemmas.{in_splits}
use Rattle.ghc_trace.specs.Blaming.{AreSoMany, IsInQuestion}
use Rattle.ghc_trace.specs.declared.judgements.Answer.{Answer}

module _ {X : Type 0} where
  -- what all stands in a list is no longer
  no_more : (xs ys : List X) → AreDistinct xs → ((x : X) → In x xs → In x ys) → length xs ≤ length ys
  no_more [] ys distinct within = omega arith
  no_more (x ∷ xs) ys distinct within =
      let s = in_splits ys x (within x (inl refl)) in
      let less = no_more xs (s.0 ++ s.1) distinct.1 (λ z i. elim (in_either s.0 (x ∷ s.1) z (subst (In z) s.2 (within z (inr i)))) [
        | inl j ↦ in_left s.0 s.1 z j
        | inr (inl same) ↦ absurd (distinct.0 (subst (λ w. In w xs) same i))
        | inr (inr j) ↦ in_right s.0 s.1 z j
      ]) in
      let whole : length ys ≡ length s.0 + length (x ∷ s.1) = ap length s.2 ∙ length-append s.0 (x ∷ s.1) in
      let rest : length (s.0 ++ s.1) ≡ length s.0 + length s.1 = length-append s.0 s.1 in
      omega (arith, less, whole, rest)

-- the numbers below another
below : ℕ → List ℕ
below zero = []
below (suc n) = n ∷ below n

below_length : (n : ℕ) → length (below n) ≡ n
unfolding below
below_length zero = refl
below_length (suc n) = ap suc (below_length n)

in_below : (n k : ℕ) → k < n → In k (below n)
unfolding below
in_below zero k low = absurd (omega (arith, low))
in_below (suc n) k low = elim (cases_eq k n) [ inl same ↦ inl same | inr other ↦ inr (in_below n k (omega (arith, low, other))) ]

few_numbers : (n : ℕ) (ks : List ℕ) → AreDistinct ks → ((k : ℕ) → In k ks → k < n) → length ks ≤ n
few_numbers n ks distinct low = subst (λ m. length ks ≤ m) (below_length n) (no_more ks (below n) distinct (λ k i. in_below n k (low k i)))

-- a name more, if there is one
with_name : Option GoalName → List GoalName → List GoalName
with_name None gs = gs
with_name (Some g) gs = g ∷ gs

with_name_length : (o : Option GoalName) (gs : List GoalName) → length (with_name o gs) ≤ length gs + 1
unfolding with_name
with_name_length None gs = omega arith
with_name_length (Some g) gs = omega arith

in_named : (o : Option GoalName) (gs : List GoalName) (g : GoalName) → o ≡ Some g → In g (with_name o gs)
unfolding with_name
in_named None gs g e = let clash : None ≡ Some g = e in cc
in_named (Some h) gs g e = let same : h ≡ g = cc in inl (sym same)

in_others : (o : Option GoalName) (gs : List GoalName) (g : GoalName) → In g gs → In g (with_name o gs)
unfolding with_name
in_others None gs g i = i
in_others (Some h) gs g i = inr i

-- the goals that these steps took
names_taken : List Record → List GoalName
names_taken [] = []
names_taken (r ∷ rs) = with_name r.goal (names_taken rs)

names_taken_length : (rs : List Record) → length (names_taken rs) ≤ length rs
unfolding names_taken
names_taken_length [] = omega arith
names_taken_length (r ∷ rs) = omega (arith, names_taken_length rs, with_name_length r.goal (names_taken rs))

in_names : (rs : List Record) (r : Record) (g : GoalName) → In r rs → r.goal ≡ Some g → In g (names_taken rs)
unfolding names_taken
in_names [] r g i e = absurd i
in_names (q ∷ rs) r g (inl same) e = in_named q.goal (names_taken rs) g (ap (λ (z : Record). z.goal) (sym same) ∙ e)
in_names (q ∷ rs) r g (inr i) e = in_others q.goal (names_taken rs) g (in_names rs r g i e)

-- the steps of a replay are few
few_steps : (P : Program) (query : Query) (rs : List Record) (t : State) → Replays P query rs t → length rs + 1 ≤ number_limit
few_steps P query rs t replay =
    let numbered : (k : ℕ) → In k (numbers rs) → (1 ≤ k) × (k < number_limit) = λ k i. (let q = number_of rs k i in subst (λ m. (1 ≤ m) × (m < number_limit)) q.2 (replay.0.0 q.0 q.1)) in
    let long : length (numbers rs) ≡ length rs = length-map rs (λ (z : Record). z.number) in
    let few = few_numbers number_limit (0 ∷ numbers rs) ((λ i. let k = (numbered 0 i).0 in absurd (omega (arith, k))), replay.0.1) (λ k i. elim i [
      | inl same ↦ omega (arith, same)
      | inr j ↦ (numbered k j).1
    ]) in
    omega (arith, few, long)

-- and so are the calls in question
pub few_calls : (P : Program) (query : Query) (rs : List Record) (t : State) (target top : Option GoalName) (told : List Answer) (count : ℕ) → Replays P query rs t
    → AreSoMany (IsInQuestion rs t target told top) count → count ≤ number_limit
few_calls P query rs t target top told count replay many =
    let less = no_more many.0 (with_name target (names_taken rs)) many.1 (λ g i. elim ((many.2 g).0 i).0 [
      | inl q ↦ in_others target (names_taken rs) g (in_names rs q.0 g q.2 q.3)
      | inr q ↦ in_named target (names_taken rs) g q.0
    ]) in
    let one = with_name_length target (names_taken rs) in
    let names = names_taken_length rs in
    let steps = few_steps P query rs t replay in
    let counted = many.3 in
    omega (arith, less, one, names, steps, counted)
