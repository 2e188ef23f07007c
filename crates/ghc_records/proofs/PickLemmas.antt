-- What stands before what in a list, in a longer one, and in a part of it.
use Rattle.ghc_records.proofs.Words.{◌≡◌, ◌+◌, ◌≤◌, ◌⊎◌, List, [], ◌∷◌, ◌++◌, length, refl, sym, ap, ◌∙◌, subst, inl, inr, arith, In, in_left, in_right, in_more, in_either, in_splits, Picks, nothing, leave, AreDistinct, Record, numbers}
use Rattle.std.proofs.lemmas.List.{length-append}
use Rattle.ghc_records.specs.Orders.{take}
use Rattle.ghc_records.proofs.OrderLemmas.{Before, before_once, number_in, number_of}

module _ {X : Type 0} where
  -- of two elements one stands before the other, or they are one
  pub either_before : (xs : List X) (a b : X) → In a xs → In b xs → Before xs a b ⊎ (Before xs b a ⊎ (a ≡ b))
  either_before [] a b i j = absurd i
  either_before (x ∷ xs) a b (inl e) (inl f) = inr (inr (e ∙ sym f))
  either_before (x ∷ xs) a b (inl e) (inr j) = inl (inl (e, j))
  either_before (x ∷ xs) a b (inr i) (inl f) = inr (inl (inl (f, i)))
  either_before (x ∷ xs) a b (inr i) (inr j) = elim (either_before xs a b i j) [ inl h ↦ inl (inr h) | inr (inl h) ↦ inr (inl (inr h)) | inr (inr e) ↦ inr (inr e) ]

  pub before_left : (xs ys : List X) (a b : X) → Before xs a b → Before (xs ++ ys) a b
  before_left [] ys a b h = absurd h
  before_left (x ∷ xs) ys a b (inl h) = inl (h.0, in_left xs ys b h.1)
  before_left (x ∷ xs) ys a b (inr h) = inr (before_left xs ys a b h)

  pub before_right : (xs ys : List X) (a b : X) → Before ys a b → Before (xs ++ ys) a b
  before_right [] ys a b h = h
  before_right (x ∷ xs) ys a b h = inr (before_right xs ys a b h)

  pub before_across : (xs ys : List X) (a b : X) → In a xs → In b ys → Before (xs ++ ys) a b
  before_across [] ys a b i j = absurd i
  before_across (x ∷ xs) ys a b (inl e) j = inl (e, in_right xs ys b j)
  before_across (x ∷ xs) ys a b (inr i) j = inr (before_across xs ys a b i j)

  -- with one element more at the end, nothing stands before another but what did, and all before that one
  pub before_last : (xs : List X) (z a b : X) → Before (xs ++ z ∷ []) a b → Before xs a b ⊎ (In a xs × (b ≡ z))
  before_last [] z a b (inl h) = absurd h.1
  before_last [] z a b (inr h) = absurd h
  before_last (x ∷ xs) z a b (inl h) = elim (in_more xs z b h.1) [ inl j ↦ inl (inl (h.0, j)) | inr e ↦ inr (inl h.0, e) ]
  before_last (x ∷ xs) z a b (inr h) = elim (before_last xs z a b h) [ inl j ↦ inl (inr j) | inr p ↦ inr (inr p.0, p.1) ]

  pub kept_in : (before behind : List X) (x y : X) → In y (before ++ x ∷ behind) → ¬ (y ≡ x) → In y (before ++ behind)
  kept_in before behind x y i n = elim (in_either before (x ∷ behind) y i) [
    | inl j ↦ in_left before behind y j
    | inr (inl e) ↦ absurd (n e)
    | inr (inr j) ↦ in_right before behind y j
  ]

  -- a list without repetitions is no longer than one that has all its elements
  pub no_longer : (xs ys : List X) → AreDistinct xs → ((x : X) → In x xs → In x ys) → length xs ≤ length ys
  no_longer [] ys d h = omega arith
  no_longer (x ∷ xs) ys d h =
      let s = in_splits ys x (h x (inl refl)) in
      let rest = no_longer xs (s.0 ++ s.1) d.1 (λ y i. kept_in s.0 s.1 x y (subst (In y) s.2 (h y (inr i))) (λ e. d.0 (subst (λ z. In z xs) e i))) in
      let whole : length ys ≡ length s.0 + length (x ∷ s.1) = ap length s.2 ∙ length-append s.0 (x ∷ s.1) in
      let parts : length (s.0 ++ s.1) ≡ length s.0 + length s.1 = length-append s.0 s.1 in
      omega arith

module _ {X : Type 0} {P : X → Type 0} where
  pub picks_in : (xs ys : List X) (y : X) → Picks P xs ys → In y ys → In y xs × P y
  picks_in [] ys y nothing i = absurd i
  picks_in (x ∷ xs) ys y (take p k) (inl e) = (inl e, subst P (sym e) p)
  picks_in (x ∷ xs) ys y (take p k) (inr i) = let q = picks_in xs _ y k i in (inr q.0, q.1)
  picks_in (x ∷ xs) ys y (leave p k) i = let q = picks_in xs _ y k i in (inr q.0, q.1)

  pub picks_has : (xs ys : List X) (x : X) → Picks P xs ys → In x xs → In x ys ⊎ (¬ P x)
  picks_has [] ys x nothing i = absurd i
  picks_has (y ∷ xs) ys x (take p k) (inl e) = inl (inl e)
  picks_has (y ∷ xs) ys x (take p k) (inr i) = elim (picks_has xs _ x k i) [ inl j ↦ inl (inr j) | inr n ↦ inr n ]
  picks_has (y ∷ xs) ys x (leave p k) (inl e) = inr (λ q. p (subst P e q))
  picks_has (y ∷ xs) ys x (leave p k) (inr i) = picks_has xs _ x k i

  pub picks_order : (xs ys : List X) (a b : X) → Picks P xs ys → Before ys a b → Before xs a b
  picks_order [] ys a b nothing h = absurd h
  picks_order (x ∷ xs) ys a b (take p k) (inl h) = inl (h.0, (picks_in xs _ b k h.1).0)
  picks_order (x ∷ xs) ys a b (take p k) (inr h) = inr (picks_order xs _ a b k h)
  picks_order (x ∷ xs) ys a b (leave p k) h = inr (picks_order xs _ a b k h)

  -- the elements picked keep their order
  pub picks_keep : (xs ys : List X) (a b : X) → AreDistinct xs → Picks P xs ys → In a ys → In b ys → Before xs a b → Before ys a b
  picks_keep xs ys a b distinct k i j before = elim (either_before ys a b i j) [
    | inl h ↦ h
    | inr (inl h) ↦ absurd (before_once xs a b distinct before (picks_order xs ys b a k h))
    | inr (inr same) ↦ let again = subst (λ z. Before xs z b) same before in absurd (before_once xs b b distinct again again)
  ]

  pub pick_last : (xs ys : List X) (x : X) → Picks P xs ys → P x → Picks P (xs ++ x ∷ []) (ys ++ x ∷ [])
  pick_last [] ys x nothing p = take p nothing
  pick_last (y ∷ xs) ys x (take q k) p = take q (pick_last xs _ x k p)
  pick_last (y ∷ xs) ys x (leave q k) p = leave q (pick_last xs _ x k p)

  pub leave_last : (xs ys : List X) (x : X) → Picks P xs ys → ¬ P x → Picks P (xs ++ x ∷ []) ys
  leave_last [] ys x nothing p = leave p nothing
  leave_last (y ∷ xs) ys x (take q k) p = take q (leave_last xs _ x k p)
  leave_last (y ∷ xs) ys x (leave q k) p = leave q (leave_last xs _ x k p)

module _ {X : Type 0} where
  -- all elements are picked where each is another than x
  pub others_all : (x : X) (ys : List X) → ¬ In x ys → Picks (λ s. ¬ (s ≡ x)) ys ys
  others_all x [] out = nothing
  others_all x (y ∷ ys) out = take (λ e. out (inl (sym e))) (others_all x ys (λ i. out (inr i)))

-- records that are picked have distinct numbers where all have
pub picks_distinct : {P : Record → Type 0} (rs left : List Record) → Picks P rs left → AreDistinct (numbers rs) → AreDistinct (numbers left)
picks_distinct [] left nothing d = tt
picks_distinct (r ∷ rs) left (take {ys = ys} p k) d =
    ((λ i. let q = number_of ys r.number i in d.0 (subst (λ n. In n (numbers rs)) q.2 (number_in rs q.0 (picks_in rs ys q.0 k q.1).0))), picks_distinct rs ys k d.1)
picks_distinct (r ∷ rs) left (leave p k) d = picks_distinct rs left k d.1
