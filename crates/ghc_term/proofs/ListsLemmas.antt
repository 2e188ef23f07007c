-- Elements of lists: where they stand, and how lists split at them.
use Rattle.ghc_term.proofs.Words.{◌≡◌, ℕ, zero, suc, ◌+◌, ◌<◌, Bool, true, false, nat_eq, List, [], ◌∷◌, ◌++◌, length, map, get_or, take, drop, append_assoc, ◌⊎◌, inl, inr, refl, sym, ap, ◌∙◌, subst, arith, Some, None, slice_get, slice_index_or, Contains, take_more, take-append-drop, Contains-append_left, Contains-append_right, Contains-append_cases, Contains-get_or, nat_tests, In}

-- a test has one answer
pub not_both : (b : Bool) → b ≡ false → b ≡ true → ⊥
not_both b f t = let clash : true ≡ false = sym t ∙ f in cc

module _ {X : Type 0} where
  -- the same by the library's word
  pub in_contains : (xs : List X) (x : X) → In x xs → Contains xs x
  in_contains [] x i = absurd i
  in_contains (y ∷ xs) x (inl e) = (0, omega arith, sym e)
  in_contains (y ∷ xs) x (inr i) = let w = in_contains xs x i in (suc w.0, omega (arith, w.1), w.2)

  in_index : (xs : List X) (x : X) (k : ℕ) → k < length xs → slice_index_or xs k x ≡ x → In x xs
  in_index [] x k l e = absurd (omega arith)
  in_index (y ∷ xs) x zero l e = inl (sym e)
  in_index (y ∷ xs) x (suc k) l e = inr (in_index xs x k (omega arith) e)

  pub contains_in : (xs : List X) (x : X) → Contains xs x → In x xs
  contains_in xs x w = in_index xs x w.0 w.1 w.2

  pub in_left : (xs ys : List X) (x : X) → In x xs → In x (xs ++ ys)
  in_left xs ys x i = contains_in (xs ++ ys) x (Contains-append_left xs ys x (in_contains xs x i))

  pub in_right : (xs ys : List X) (x : X) → In x ys → In x (xs ++ ys)
  in_right xs ys x i = contains_in (xs ++ ys) x (Contains-append_right xs ys x (in_contains ys x i))

  pub in_either : (xs ys : List X) (x : X) → In x (xs ++ ys) → In x xs ⊎ In x ys
  in_either xs ys x i = elim (Contains-append_cases xs ys x (in_contains (xs ++ ys) x i)) [
    | inl c ↦ inl (contains_in xs x c)
    | inr c ↦ inr (contains_in ys x c)
  ]

  pub in_middle : (xs : List X) (x : X) (ys : List X) → In x (xs ++ x ∷ ys)
  in_middle xs x ys = in_right xs (x ∷ ys) x (inl refl)

  -- one more element at the end
  pub in_last : (xs : List X) (x : X) → In x (xs ++ x ∷ [])
  in_last xs x = in_middle xs x []

  pub in_more : (xs : List X) (x y : X) → In y (xs ++ x ∷ []) → In y xs ⊎ (y ≡ x)
  in_more xs x y i = elim (in_either xs (x ∷ []) y i) [ inl j ↦ inl j | inr j ↦ elim j [ inl e ↦ inr e | inr none ↦ absurd none ] ]

  -- an element at a place
  pub in_get : (xs : List X) (i : ℕ) (d : X) → i < length xs → In (get_or xs i d) xs
  in_get xs i d h = contains_in xs (get_or xs i d) (Contains-get_or xs i d h)

  pub in_place : (xs : List X) (i : ℕ) (x : X) → i < length xs → x ≡ get_or xs i x → In x xs
  in_place xs i x h e = subst (λ y. In y xs) (sym e) (in_get xs i x h)

  pub in_at : (xs : List X) (i : ℕ) (x : X) → slice_get xs i ≡ Some x → In x xs
  in_at [] i x e = let clash : None ≡ Some x = e in cc
  in_at (y ∷ xs) zero x e = let same : y ≡ x = cc in inl (sym same)
  in_at (y ∷ xs) (suc i) x e = inr (in_at xs i x e)

  pub at_of_in : (xs : List X) (x : X) → In x xs → (i : ℕ) × (slice_get xs i ≡ Some x)
  at_of_in [] x i = absurd i
  at_of_in (y ∷ xs) x (inl e) = (0, ap Some (sym e))
  at_of_in (y ∷ xs) x (inr i) = let r = at_of_in xs x i in (suc r.0, r.1)

  -- the elements so far, and one more
  pub each_next : (P : X → Type 0) (xs : List X) (i : ℕ) (d : X) → i < length xs → ((y : X) → In y (take i xs) → P y) → P (get_or xs i d) → (y : X) → In y (take (i + 1) xs) → P y
  each_next P xs i d h before here y at =
      elim (in_more (take i xs) (get_or xs i d) y (subst (In y) (take_more xs i d h) at)) [ inl a ↦ before y a | inr e ↦ subst P (sym e) here ]

  -- an element splits the list
  pub in_splits : (xs : List X) (x : X) → In x xs → (front : List X) × (back : List X) × (xs ≡ front ++ x ∷ back)
  in_splits [] x i = absurd i
  in_splits (y ∷ xs) x (inl e) = ([], xs, ap (λ z. z ∷ xs) (sym e))
  in_splits (y ∷ xs) x (inr i) = let r = in_splits xs x i in (y ∷ r.0, r.1, ap (λ l. y ∷ l) r.2)

  -- what stands in front of a place, there, and after it
  pub splits_at : (xs : List X) (i : ℕ) (x : X) → i < length xs → x ≡ get_or xs i x → xs ≡ take i xs ++ x ∷ drop (i + 1) xs
  splits_at xs i x h e =
      let more : take (i + 1) xs ≡ take i xs ++ x ∷ [] = take_more xs i x h ∙ ap (λ u. take i xs ++ u ∷ []) (sym e) in
      sym (take-append-drop (i + 1) xs) ∙ ap (λ l. l ++ drop (i + 1) xs) more ∙ append_assoc (take i xs) (x ∷ []) (drop (i + 1) xs)

  pub next_in : (xs : List X) (i : ℕ) (x y : X) → i < length xs → x ≡ get_or xs i x → In y (take (i + 1) xs) → In y (take i xs) ⊎ (y ≡ x)
  next_in xs i x y h e k = in_more (take i xs) x y (subst (In y) (take_more xs i x h ∙ ap (λ u. take i xs ++ u ∷ []) (sym e)) k)

  -- how two splits of one list stand to each other
  abbrev pub Compared : List X → X → List X → X → Type 0
  Compared f x g y = ((f ≡ g) × (x ≡ y)) ⊎ (((m : List X) × (g ≡ f ++ x ∷ m)) ⊎ ((m : List X) × (f ≡ g ++ y ∷ m)))

  head_of : X → List X → X
  head_of d [] = d
  head_of d (x ∷ _) = x

  tail_of : List X → List X
  tail_of [] = []
  tail_of (_ ∷ xs) = xs

  pub compare_splits : (f g : List X) (x y : X) (b d : List X) → f ++ x ∷ b ≡ g ++ y ∷ d → Compared f x g y
  unfolding head_of tail_of
  compare_splits [] [] x y b d e = inl (refl, ap (head_of x) e)
  compare_splits [] (z ∷ g) x y b d e = inr (inl (g, ap (λ w. w ∷ g) (sym (ap (head_of x) e))))
  compare_splits (z ∷ f) [] x y b d e = inr (inr (f, ap (λ w. w ∷ f) (ap (head_of z) e)))
  compare_splits (z ∷ f) (w ∷ g) x y b d e =
      let first : z ≡ w = ap (head_of z) e in
      elim (compare_splits f g x y b d (ap tail_of e)) [
        | inl p ↦ inl ((λ i. first i ∷ p.0 i), p.1)
        | inr r ↦ elim r [
          | inl p ↦ inr (inl (p.0, (λ i. sym first i ∷ p.1 i)))
          | inr p ↦ inr (inr (p.0, (λ i. first i ∷ p.1 i)))
        ]
      ]

  -- a list is empty where its length is nothing
  pub is_nothing : (xs : List X) → nat_eq (length xs) 0 ≡ true → xs ≡ []
  is_nothing [] e = refl
  is_nothing (x ∷ xs) e = absurd (grind (arith, nat_tests))

  pub is_something : (xs : List X) → nat_eq (length xs) 0 ≡ false → xs ≡ [] → ⊥
  is_something [] e f = cc
  is_something (x ∷ xs) e f = cc

  pub map_same : (xs : List X) → map (λ y. y) xs ≡ xs
  map_same [] = refl
  map_same (x ∷ xs) = ap (λ l. x ∷ l) (map_same xs)

  -- each element is one of which Q holds
  abbrev pub Each : List X → (X → Type 0) → Type 0
  Each [] Q = Unit {0}
  Each (x ∷ xs) Q = Q x × Each xs Q

  pub each_in : (xs : List X) (Q : X → Type 0) (x : X) → Each xs Q → In x xs → Q x
  each_in [] Q x a i = absurd i
  each_in (y ∷ ys) Q x a (inl s) = subst Q (sym s) a.0
  each_in (y ∷ ys) Q x a (inr i) = each_in ys Q x a.1 i

  pub each_both : (xs ys : List X) (P : X → Type 0) → Each xs P → Each ys P → Each (xs ++ ys) P
  each_both [] ys P a b = b
  each_both (x ∷ xs) ys P a b = (a.0, each_both xs ys P a.1 b)

  pub each_as : (xs : List X) (P Q : X → Type 0) → ((x : X) → P x → Q x) → Each xs P → Each xs Q
  each_as [] P Q f a = tt
  each_as (x ∷ xs) P Q f a = (f x a.0, each_as xs P Q f a.1)

pub in_map : {X Y : Type 0} (f : X → Y) (xs : List X) (x : X) → In x xs → In (f x) (map f xs)
in_map f [] x i = absurd i
in_map f (y ∷ xs) x (inl e) = inl (ap f e)
in_map f (y ∷ xs) x (inr i) = inr (in_map f xs x i)
