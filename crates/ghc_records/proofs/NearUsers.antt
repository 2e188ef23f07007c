-- Users by step, where the steps of the first numbers stand in a list by number, in front of the entries of the others.
use Rattle.ghc_records.proofs.Words.{◌≡◌, ◌≢◌, ◌<◌, ◌≤◌, ◌+◌, ℕ, zero, suc, cond, true, false, List, [], ◌∷◌, ◌++◌, length, get_or, refl, sym, ap, ◌∙◌, subst, inl, inr, ◌⊎◌, nat_eq, arith, eqb-true, eq-eqb, ne_eqb, Option, Some, None, slice_set, lookup, In, in_either, Table, UsersByStep, numbered, users_in, numbers_in, room_in, users_at, CanTake, HasGrown, AreAllEmpty}
use Rattle.std.specs.FinMap as finite
use Rattle.std.proofs.lemmas.List.{append_assoc}
use Rattle.ghc_records.proofs.StepUsers.{Differs, at_first, written, gone, unchanged}

-- sets of numbers, by number, and with the numbers of their steps
abbrev Sets : Type 0
Sets = List (Table (List ℕ))

abbrev Entries : Type 0
Entries = List (ℕ × Table (List ℕ))

-- what the list has at a place stands under the number of the place
near : (n x k : ℕ) (ts : Sets) (es : Entries) (d : Table (List ℕ)) → k ≡ n + x → x < length ts → lookup (nat_eq k) (numbered n ts ++ es) ≡ Some (get_or ts x d)
near n x k [] es d e h = absurd (omega (arith, h))
near n zero k (t ∷ ts) es d e h = ap (λ b. cond b (Some t) (lookup (nat_eq k) (numbered (n + 1) ts ++ es))) (eq-eqb k n (omega (arith, e)))
near n (suc x) k (t ∷ ts) es d e h =
    ap (λ b. cond b (Some t) (lookup (nat_eq k) (numbered (n + 1) ts ++ es))) (ne_eqb k n (λ f. omega (arith, e, f)))
    ∙ near (n + 1) x k ts es d (omega (arith, e)) (omega (arith, h))

-- under the numbers from its length on stands what stands there without it
far : (n x k : ℕ) (ts : Sets) (es : Entries) → k ≡ n + x → length ts ≤ x → lookup (nat_eq k) (numbered n ts ++ es) ≡ lookup (nat_eq k) es
far n x k [] es e h = refl
far n zero k (t ∷ ts) es e h = absurd (omega (arith, h))
far n (suc x) k (t ∷ ts) es e h =
    ap (λ b. cond b (Some t) (lookup (nat_eq k) (numbered (n + 1) ts ++ es))) (ne_eqb k n (λ f. omega (arith, e, f)))
    ∙ far (n + 1) x k ts es (omega (arith, e)) (omega (arith, h))

-- of two tests for two numbers, either may come first; of two for one number the first counts
module _ {X : Type 0} (n k q : ℕ) (s p l : X) where
  swapped : k ≢ n → cond (nat_eq q n) s (cond (nat_eq k q) p l) ≡ cond (nat_eq k q) p (cond (nat_eq q n) s l)
  swapped other = elim (nat_eq q n) as (λ b. nat_eq q n ≡ b → cond b s (cond (nat_eq k q) p l) ≡ cond (nat_eq k q) p (cond b s l)) [
    | true ↦ λ e. sym (ap (λ b. cond b p s) (ne_eqb k q (λ f. other (f ∙ eqb-true q n e))))
    | false ↦ λ e. refl
  ] refl

  covered : k ≡ n → cond (nat_eq q n) p l ≡ cond (nat_eq k q) p (cond (nat_eq q n) s l)
  covered same = elim (nat_eq q n) as (λ b. nat_eq q n ≡ b → cond b p l ≡ cond (nat_eq k q) p (cond b s l)) [
    | true ↦ λ e. sym (ap (λ b. cond b p s) (eq-eqb k q (same ∙ sym (eqb-true q n e))))
    | false ↦ λ e. sym (ap (λ b. cond b p l) (ne_eqb k q (λ f. let clash : true ≡ false = sym (eq-eqb q n (sym f ∙ same)) ∙ e in cc)))
  ] refl

-- a place of the list that is written
near_set : (n x k : ℕ) (ts : Sets) (es : Entries) (w : Table (List ℕ)) → k ≡ n + x → x < length ts → (q : ℕ)
    → lookup (nat_eq q) (numbered n (slice_set ts x w) ++ es) ≡ cond (nat_eq k q) (Some w) (lookup (nat_eq q) (numbered n ts ++ es))
near_set n x k [] es w e h q = absurd (omega (arith, h))
near_set n zero k (t ∷ ts) es w e h q = covered n k q (Some t) (Some w) (lookup (nat_eq q) (numbered (n + 1) ts ++ es)) (omega (arith, e))
near_set n (suc x) k (t ∷ ts) es w e h q =
    ap (λ l. cond (nat_eq q n) (Some t) l) (near_set (n + 1) x k ts es w (omega (arith, e)) (omega (arith, h)) q)
    ∙ swapped n k q (Some t) (Some w) (lookup (nat_eq q) (numbered (n + 1) ts ++ es)) (λ f. omega (arith, e, f))

-- an entry after the list, written or gone
far_set : (n x k : ℕ) (ts : Sets) (es new : Entries) (p : Option (Table (List ℕ))) → k ≡ n + x → length ts ≤ x → ((q : ℕ) → lookup (nat_eq q) new ≡ cond (nat_eq k q) p (lookup (nat_eq q) es)) → (q : ℕ)
    → lookup (nat_eq q) (numbered n ts ++ new) ≡ cond (nat_eq k q) p (lookup (nat_eq q) (numbered n ts ++ es))
far_set n x k [] es new p e h u q = u q
far_set n zero k (t ∷ ts) es new p e h u q = absurd (omega (arith, h))
far_set n (suc x) k (t ∷ ts) es new p e h u q =
    ap (λ l. cond (nat_eq q n) (Some t) l) (far_set (n + 1) x k ts es new p (omega (arith, e)) (omega (arith, h)) u q)
    ∙ swapped n k q (Some t) p (lookup (nat_eq q) (numbered (n + 1) ts ++ es)) (λ f. omega (arith, e, f))

-- a place that a list of this length has not
pub past : {X : Type 0} (x n : ℕ) (ts : List X) → n ≡ length ts → (x < n → false ≡ true) → length ts ≤ x
past x n ts e out = let not_within : ¬ (x < n) = λ h. let clash = out h in cc in omega (arith, not_within, e)

first : (x : ℕ) → x ≡ 0 + x
first x = omega arith

-- users in a list and in entries
module _ (ts : Sets) (es : Entries) (m : UsersByStep) (x : ℕ) (is : users_in ts es ≡ m) where
  pub near_at : (a : Table (List ℕ)) → x < length ts → a ≡ get_or ts x a → finite.get m x ≡ Some a
  near_at a h e = at_first (numbered 0 ts ++ es) m x is (Some a) (ap Some e ∙ sym (near 0 x x ts es a (first x) h))

  pub far_at : (o : Option (Table (List ℕ))) → length ts ≤ x → o ≡ lookup (nat_eq x) es → finite.get m x ≡ o
  far_at o h e = at_first (numbered 0 ts ++ es) m x is o (e ∙ sym (far 0 x x ts es (first x) h))

  pub near_written : (a w : Table (List ℕ)) → x < length ts → a ≡ get_or ts x a → Differs m (users_in (slice_set ts x w) es) x (Some a) (Some w)
  near_written a w h e = written (numbered 0 ts ++ es) (numbered 0 (slice_set ts x w) ++ es) m x is (Some a) w (ap Some e ∙ sym (near 0 x x ts es a (first x) h)) (near_set 0 x x ts es w (first x) h)

  module _ (new : Entries) (h : length ts ≤ x) where
    pub far_written : (o : Option (Table (List ℕ))) (w : Table (List ℕ)) → o ≡ lookup (nat_eq x) es → ((q : ℕ) → lookup (nat_eq q) new ≡ cond (nat_eq x q) (Some w) (lookup (nat_eq q) es))
        → Differs m (users_in ts new) x o (Some w)
    far_written o w e u = written (numbered 0 ts ++ es) (numbered 0 ts ++ new) m x is o w (e ∙ sym (far 0 x x ts es (first x) h)) (far_set 0 x x ts es new (Some w) (first x) h u)

    pub far_gone : ((q : ℕ) → lookup (nat_eq q) new ≡ cond (nat_eq x q) None (lookup (nat_eq q) es)) → Differs m (users_in ts new) x (finite.get m x) None
    far_gone u = gone (numbered 0 ts ++ es) (numbered 0 ts ++ new) m x is (far_set 0 x x ts es new None (first x) h u)

    pub far_unchanged : None ≡ lookup (nat_eq x) es → new ≡ es → Differs m (users_in ts new) x None None
    far_unchanged none same = unchanged (numbered 0 ts ++ es) (numbered 0 ts ++ new) m x is (none ∙ sym (far 0 x x ts es (first x) h)) (ap (λ l. numbered 0 ts ++ l) same)

-- a list that has grown by sets of no numbers
pub grown_once : (old ts : Sets) (t : Table (List ℕ)) → HasGrown old ts → t.held ≡ [] → HasGrown old (ts ++ t ∷ [])
grown_once old ts t g e = (
  g.0 ++ t ∷ [],
  ap (λ l. l ++ t ∷ []) g.1 ∙ append_assoc old g.0 (t ∷ []),
  λ s i. elim (in_either g.0 (t ∷ []) s i) [ inl j ↦ g.2 s j | inr (inl same) ↦ ap (λ z. z.held) same ∙ e | inr (inr never) ↦ absurd never ],
)

empty_at : (n q : ℕ) (more : Sets) → AreAllEmpty more → numbers_in (lookup (nat_eq q) (numbered n more ++ [])) ≡ []
empty_at n q [] all = refl
empty_at n q (t ∷ ts) all = elim (nat_eq q n) as (λ b. numbers_in (cond b (Some t) (lookup (nat_eq q) (numbered (n + 1) ts ++ []))) ≡ []) [
  | true ↦ all t (inl refl)
  | false ↦ empty_at (n + 1) q ts (λ s i. all s (inr i))
]

-- what stands under a number is the same, or nothing did, and no numbers do
abbrev IsSame : Option (Table (List ℕ)) → Option (Table (List ℕ)) → Type 0
IsSame o p = (p ≡ o) ⊎ ((o ≡ None) × (numbers_in p ≡ []))

grown_at : (n q : ℕ) (old more : Sets) → AreAllEmpty more → IsSame (lookup (nat_eq q) (numbered n old ++ [])) (lookup (nat_eq q) (numbered n (old ++ more) ++ []))
grown_at n q [] more all = inr (refl, empty_at n q more all)
grown_at n q (t ∷ ts) more all = elim (nat_eq q n) as (λ b. IsSame (cond b (Some t) (lookup (nat_eq q) (numbered (n + 1) ts ++ []))) (cond b (Some t) (lookup (nat_eq q) (numbered (n + 1) (ts ++ more) ++ [])))) [
  | true ↦ inl refl
  | false ↦ grown_at (n + 1) q ts more all
]

same_numbers : (o p : Option (Table (List ℕ))) → IsSame o p → numbers_in p ≡ numbers_in o
same_numbers o p (inl e) = ap numbers_in e
same_numbers o p (inr e) = e.1 ∙ sym (ap numbers_in e.0)

same_can : (o p : Option (Table (List ℕ))) (u : ℕ) → IsSame o p → (0 < room_in o) ⊎ In u (numbers_in o) → (0 < room_in p) ⊎ In u (numbers_in p)
same_can o p u (inl e) can = subst (λ z. (0 < room_in z) ⊎ In u (numbers_in z)) (sym e) can
same_can o p u (inr e) can = elim (subst (λ z. (0 < room_in z) ⊎ In u (numbers_in z)) e.0 can) [ inl room ↦ absurd (omega (arith, room)) | inr i ↦ absurd i ]

module _ (ts new : Sets) (es : Entries) (m : UsersByStep) (is : users_in ts es ≡ m) (none : es ≡ []) (g : HasGrown ts new) where
  same : (q : ℕ) → IsSame (finite.get m q) (finite.get (users_in new es) q)
  same q =
      let now : lookup (nat_eq q) (numbered 0 new ++ es) ≡ lookup (nat_eq q) (numbered 0 (ts ++ g.0) ++ []) = ap (λ l. lookup (nat_eq q) (numbered 0 new ++ l)) none ∙ ap (λ l. lookup (nat_eq q) (numbered 0 l ++ [])) g.1 in
      let was : lookup (nat_eq q) (numbered 0 ts ++ es) ≡ lookup (nat_eq q) (numbered 0 ts ++ []) = ap (λ l. lookup (nat_eq q) (numbered 0 ts ++ l)) none in
      subst (λ o. IsSame o (finite.get (users_in new es) q)) (sym (at_first (numbered 0 ts ++ es) m q is _ (sym was)))
      (subst (λ p. IsSame (lookup (nat_eq q) (numbered 0 ts ++ [])) p) (sym (at_first (numbered 0 new ++ es) _ q refl _ (sym now))) (grown_at 0 q ts g.0 g.2))

  pub grown_users : (q : ℕ) → users_at (users_in new es) q ≡ users_at m q
  grown_users q = same_numbers (finite.get m q) (finite.get (users_in new es) q) (same q)

  pub grown_can : (q u : ℕ) → CanTake m q u → CanTake (users_in new es) q u
  grown_can q u = same_can (finite.get m q) (finite.get (users_in new es) q) u (same q)
