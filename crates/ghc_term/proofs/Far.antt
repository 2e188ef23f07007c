-- A search along variables alone: which ones were seen, and of how many of them the values were looked into.
use Rattle.ghc_term.proofs.Words.{◌≡◌, ℕ, zero, suc, ◌+◌, List, [], ◌∷◌, ◌++◌, take, slice_get, refl, sym, ap, ◌∙◌, subst, inl, inr, ◌⊎◌, ◌↔◌, arith, Option, Some, None, VarName, Tree, variable, Occurs, In, Reaches, here, through, length, AreKnown}
use Rattle.ghc_term.specs.inner.Walking.{StandsIn, AreFirstKnown, Walking}
use Rattle.std.proofs.Math.Seq.{take-append_seam}
use Rattle.ghc_term.specs.inner.Seen.{StandsInValue}
use Rattle.ghc_term.specs.inner.KeptList.{Gathers}
use Rattle.ghc_term.proofs.ListsLemmas.{in_at}
use Rattle.ghc_term.proofs.Reaching.{reaches_in}

-- what stands before a place, and there
all_taken : (xs : List VarName) (n : ℕ) → slice_get xs n ≡ None → take n xs ≡ xs
all_taken [] zero e = refl
all_taken [] (suc n) e = refl
all_taken (x ∷ xs) zero e = cc
all_taken (x ∷ xs) (suc n) e = ap (λ l. x ∷ l) (all_taken xs n e)

in_first : (xs : List VarName) (n : ℕ) (x : VarName) → slice_get xs n ≡ Some x → (y : VarName) → In y (take (suc n) xs) → In y (take n xs) ⊎ (y ≡ x)
in_first [] n x e y i = let clash : None ≡ Some x = e in cc
in_first (z ∷ zs) zero x e y (inl i) = let same : z ≡ x = cc in inr (i ∙ same)
in_first (z ∷ zs) zero x e y (inr i) = absurd i
in_first (z ∷ zs) (suc n) x e y (inl i) = inl (inl i)
in_first (z ∷ zs) (suc n) x e y (inr i) = elim (in_first zs n x e y i) [ inl j ↦ inl (inr j) | inr s ↦ inr s ]

in_next : (xs : List VarName) (n : ℕ) (x : VarName) → slice_get xs n ≡ Some x → (y : VarName) → In y (take (n + 1) xs) → In y (take n xs) ⊎ (y ≡ x)
in_next xs n x e y i = let one : n + 1 ≡ suc n = omega arith in in_first xs n x e y (subst (λ k. In y (take k xs)) one i)

get_left : (xs ys : List VarName) (n : ℕ) (x : VarName) → slice_get xs n ≡ Some x → slice_get (xs ++ ys) n ≡ Some x
get_left [] ys n x e = let clash : None ≡ Some x = e in cc
get_left (z ∷ zs) ys zero x e = e
get_left (z ∷ zs) ys (suc n) x e = get_left zs ys n x e

take_left : (xs ys : List VarName) (n : ℕ) (x : VarName) → slice_get xs n ≡ Some x → take n (xs ++ ys) ≡ take n xs
take_left [] ys n x e = let clash : None ≡ Some x = e in cc
take_left (z ∷ zs) ys zero x e = refl
take_left (z ∷ zs) ys (suc n) x e = ap (λ l. z ∷ l) (take_left zs ys n x e)

-- it does not reach `to`, or is another, and all that stands in its value was seen
abbrev pub Dealt : (VarName → Option Tree) → VarName → List VarName → VarName → Type 0
Dealt T to seen x = (¬ Reaches T (variable x) to) ⊎ ((¬ (x ≡ to)) × ((y : VarName) → StandsInValue (T x) y → In y seen))

closed_under : {T : VarName → Option Tree} {to : VarName} (seen : List VarName) → ((x : VarName) → In x seen → Dealt T to seen x) → {t : Tree} → ((y : VarName) → Occurs y t → In y seen) → ¬ Reaches T t to
closed_under {to = to} seen next all (here o) = elim (next to (all to o)) [ inl n ↦ n (here refl) | inr p ↦ p.0 refl ]
closed_under seen next all (through {u = u} {y = y} o e r) = elim (next y (all y o)) [
  | inl n ↦ n (through refl e r)
  | inr p ↦ closed_under seen next (λ z q. p.1 z (u, e, q)) r
]

-- what stands in the value
pub value_told : (o : Option Tree) (t : Tree) → Some t ≡ o → (y : VarName) → Occurs y t ↔ StandsInValue o y
value_told o t e y = (
  λ q. (t, sym e, q),
  λ s. let same : s.0 ≡ t = some_one s.0 t (sym s.1 ∙ sym e) in subst (Occurs y) same s.2,
) where
  some_one : (a b : Tree) → Some a ≡ Some b → a ≡ b
  some_one a b p = cc

pub record Far (T : VarName → Option Tree) (to : VarName) (from : Tree) (seen : List VarName) (n : ℕ) : Type 0 where
  pub first : (y : VarName) → Occurs y from → In y seen
  pub next : (x : VarName) → In x (take n seen) → Dealt T to seen x
  pub back : (y : VarName) → In y seen → (z : VarName) → Reaches T (variable y) z → Reaches T from z

module _ {T : VarName → Option Tree} {to : VarName} {from : Tree} where
  pub begun : (old seen : List VarName) → old ≡ [] → Gathers (λ y. Occurs y from) old seen → Far T to from seen 0
  begun old seen e g = record {
    first = λ y o. (g.1 y).1 (inr o);
    next = λ x i. absurd i;
    back = λ y i z r. elim ((g.1 y).0 i) [ inl j ↦ absurd (subst (In y) e j) | inr o ↦ reaches_in o r ];
  }

  pub found : (seen : List VarName) (n : ℕ) (x : VarName) → slice_get seen n ≡ Some x → x ≡ to → Far T to from seen n → Reaches T from to
  found seen n x g e f = f.back x (in_at seen n x g) to (here (sym e))

  pub passed : (seen : List VarName) (n : ℕ) (x : VarName) → slice_get seen n ≡ Some x → ¬ Reaches T (variable x) to → Far T to from seen n → Far T to from seen (n + 1)
  passed seen n x g h f = record {
    first = f.first;
    next = λ y i. elim (in_next seen n x g y i) [ inl j ↦ f.next y j | inr s ↦ inl (λ r. h (subst (λ z. Reaches T (variable z) to) s r)) ];
    back = f.back;
  }

  pub opened : (seen seen' : List VarName) (n : ℕ) (x : VarName) → slice_get seen n ≡ Some x → ¬ (x ≡ to) → Gathers (StandsInValue (T x)) seen seen' → Far T to from seen n → Far T to from seen' (n + 1)
  opened seen seen' n x g h a f =
      let at : slice_get seen' n ≡ Some x = ap (λ l. slice_get l n) a.0.1 ∙ get_left seen a.0.0 n x g in
      let front : take n seen' ≡ take n seen = ap (take n) a.0.1 ∙ take_left seen a.0.0 n x g in
      let wider : (y : VarName) → In y seen → In y seen' = λ y i. (a.1 y).1 (inl i) in
      record {
        first = λ y o. wider y (f.first y o);
        next = λ y i. elim (in_next seen' n x at y i) [
          | inl j ↦ elim (f.next y (subst (In y) front j)) [ inl m ↦ inl m | inr p ↦ inr (p.0, λ z s. wider z (p.1 z s)) ]
          | inr s ↦ inr ((λ e. h (sym s ∙ e)), λ z t. (a.1 z).1 (inr (subst (λ w. StandsInValue (T w) z) s t)))
        ];
        back = λ y i z r. elim ((a.1 y).0 i) [
          | inl j ↦ f.back y j z r
          | inr t ↦ f.back x (in_at seen n x g) z (through refl t.1 (reaches_in t.2 r))
        ];
      }

  pub finished : (seen : List VarName) (n : ℕ) → slice_get seen n ≡ None → Far T to from seen n → ¬ Reaches T from to
  finished seen n e f = closed_under seen (λ x i. f.next x (subst (In x) (sym (all_taken seen n e)) i)) f.first

-- known variables: what stands in the open trees is added, then the values of the variables that are new, one after another
module _ {T : VarName → Option Tree} where
  pub open_added : (old new : List VarName) (open_ones : List Tree) → Walking T old open_ones → Gathers (λ y. StandsIn y open_ones) old new → AreFirstKnown T (length old) new
  open_added old new open_ones w a x i y s =
      let front : take (length old) new ≡ old = ap (take (length old)) a.0.1 ∙ take-append_seam old a.0.0 in
      (a.1 y).1 (w x (subst (In x) front i) s.0 s.1 y s.2)

  pub value_added : (known known' : List VarName) (n : ℕ) (x : VarName) → slice_get known n ≡ Some x → Gathers (StandsInValue (T x)) known known' → AreFirstKnown T n known → AreFirstKnown T (n + 1) known'
  value_added known known' n x g a w =
      let at : slice_get known' n ≡ Some x = ap (λ l. slice_get l n) a.0.1 ∙ get_left known a.0.0 n x g in
      let front : take n known' ≡ take n known = ap (take n) a.0.1 ∙ take_left known a.0.0 n x g in
      λ z i y s. elim (in_next known' n x at z i) [
        | inl j ↦ (a.1 y).1 (inl (w z (subst (In z) front j) y s))
        | inr e ↦ (a.1 y).1 (inr (subst (λ v. StandsInValue (T v) y) e s))
      ]

  pub all_known : (known : List VarName) (n : ℕ) → slice_get known n ≡ None → AreFirstKnown T n known → AreKnown T known
  all_known known n e w x i t b y o = w x (subst (In x) (sym (all_taken known n e)) i) y (t, b, o)
