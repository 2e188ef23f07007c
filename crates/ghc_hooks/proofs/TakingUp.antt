-- The variables of a tree are taken up at once: how far the search has then come, and that less is open.
use Rattle.ghc_hooks.proofs.Words.{◌≡◌, ℕ, ◌+◌, ◌<◌, ◌≤◌, ◌↔◌, List, [], ◌∷◌, ◌++◌, length, get_or, take, refl, sym, ap, ◌∙◌, subst, inl, inr, ◌⊎◌, arith, append-nil, append_assoc, take_more, sum_by, sum_by-append, sum_by-cons, Option, Some, None, IsTrue, true_decided, VarName, Tree, variable, integer, node, Trees, none, more, Occurs, StoreValue, value_at, In, in_left, in_right, in_either, in_more, in_splits, Variables, through, IsAcyclic, value_list, value_in_list, list_is_value, one_inserted, sizes, size, size_all, size_positive, size_variable, variables, variables_of_all, in_variables, StandOnce, values_of, TakesUp, TakesUpAll}
use Rattle.std.specs.FinSet as set
use Rattle.ghc_hooks.proofs.Reaching.{Reaching, replaced}

-- one more that is not there yet
once_more : (xs : List VarName) (x : VarName) → StandOnce xs → (¬ In x xs) → StandOnce (xs ++ x ∷ [])
once_more [] x o n = ((λ i. i), tt)
once_more (y ∷ ys) x o n = ((λ i. elim (in_more ys x y i) [ inl j ↦ o.0 j | inr e ↦ n (inl (sym e)) ]), once_more ys x o.1 (λ i. n (inr i)))

-- the values of a list of variables
values_more : (S : VarName → Option Tree) (xs : List VarName) (x : VarName) → values_of S (xs ++ x ∷ []) ≡ values_of S xs ++ value_list (S x)
values_more S [] x = append-nil (value_list (S x))
values_more S (y ∷ ys) x = ap (λ l. value_list (S y) ++ l) (values_more S ys x) ∙ sym (append_assoc (value_list (S y)) (values_of S ys) (value_list (S x)))

among_values : (S : VarName → Option Tree) (xs : List VarName) (x : VarName) (u : Tree) → In x xs → S x ≡ Some u → In u (values_of S xs)
among_values S [] x u i e = absurd i
among_values S (y ∷ ys) x u (inl s) e = in_left (value_list (S y)) (values_of S ys) u (value_in_list (S y) u (ap S (sym s) ∙ e))
among_values S (y ∷ ys) x u (inr i) e = in_right (value_list (S y)) (values_of S ys) u (among_values S ys x u i e)

of_values : (S : VarName → Option Tree) (xs : List VarName) (u : Tree) → In u (values_of S xs) → (x : VarName) × In x xs × (S x ≡ Some u)
of_values S [] u i = absurd i
of_values S (y ∷ ys) u i = elim (in_either (value_list (S y)) (values_of S ys) u i) [
  | inl a ↦ (y, inl refl, list_is_value (S y) u a)
  | inr b ↦ let r = of_values S ys u b in (r.0, inr r.1, r.2)
]

module _ (S : VarName → Option Tree) where
  -- one variable after another
  pub taken_none : (xs : List VarName) (reached : Variables) (open_ones : List Tree) → TakesUpAll S (λ x. In x (take 0 xs)) reached reached open_ones open_ones
  taken_none xs reached open_ones = (
    [],
    tt,
    λ x. (λ i. absurd i, λ p. p.0),
    λ x. (λ i. inl i, λ c. elim c [ inl i ↦ i | inr n ↦ absurd n ]),
    sym (append-nil open_ones),
  )

  module _ {P Q : VarName → Type 0} (x : VarName) (old mid new : Variables) (first later last : List Tree) (is : (y : VarName) → Q y ↔ (P y ⊎ (y ≡ x))) (all : TakesUpAll S P old mid first later) where
    taken_before : IsTrue (set.contains mid x) → new ≡ mid → last ≡ later → TakesUpAll S Q old new first last
    taken_before there same open_same = (
      all.0,
      all.1,
      λ y. (
        λ i. let c = (all.2 y).0 i in ((is y).1 (inl c.0), c.1),
        λ p. elim ((is y).0 p.0) [
          | inl q ↦ (all.2 y).1 (q, p.1)
          | inr e ↦ elim ((all.3 y).0 (subst (λ z. IsTrue (set.contains mid z)) (sym e) there)) [ inl was ↦ absurd (p.1 was) | inr q ↦ (all.2 y).1 (q, p.1) ]
        ],
      ),
      λ y. (
        λ i. elim ((all.3 y).0 (subst (λ s. IsTrue (set.contains s y)) same i)) [ inl was ↦ inl was | inr q ↦ inr ((is y).1 (inl q)) ],
        λ c. subst (λ s. IsTrue (set.contains s y)) (sym same) (elim c [
          | inl was ↦ (all.3 y).1 (inl was)
          | inr p ↦ elim ((is y).0 p) [ inl q ↦ (all.3 y).1 (inr q) | inr e ↦ subst (λ z. IsTrue (set.contains mid z)) (sym e) there ]
        ]),
      ),
      open_same ∙ all.4,
    )

    taken_now : (¬ IsTrue (set.contains mid x)) → new ≡ set.insert mid x → last ≡ later ++ value_list (S x) → TakesUpAll S Q old new first last
    taken_now absent grown open_more =
        let fresh : ¬ In x all.0 = λ i. absent ((all.3 x).1 (inr ((all.2 x).0 i).0)) in (
          all.0 ++ x ∷ [],
          once_more all.0 x all.1 fresh,
          λ y. (
            λ i. elim (in_more all.0 x y i) [
              | inl j ↦ let c = (all.2 y).0 j in ((is y).1 (inl c.0), c.1)
              | inr e ↦ ((is y).1 (inr e), λ was. absent (subst (λ z. IsTrue (set.contains mid z)) e ((all.3 y).1 (inl was))))
            ],
            λ p. elim ((is y).0 p.0) [
              | inl q ↦ in_left all.0 (x ∷ []) y ((all.2 y).1 (q, p.1))
              | inr e ↦ in_right all.0 (x ∷ []) y (inl e)
            ],
          ),
          λ y. (
            λ i. elim ((one_inserted mid x y).0 (subst (λ s. IsTrue (set.contains s y)) grown i)) [
              | inl j ↦ elim ((all.3 y).0 j) [ inl was ↦ inl was | inr q ↦ inr ((is y).1 (inl q)) ]
              | inr e ↦ inr ((is y).1 (inr e))
            ],
            λ c. subst (λ s. IsTrue (set.contains s y)) (sym grown) ((one_inserted mid x y).1 (elim c [
              | inl was ↦ inl ((all.3 y).1 (inl was))
              | inr p ↦ elim ((is y).0 p) [ inl q ↦ inl ((all.3 y).1 (inr q)) | inr e ↦ inr e ]
            ])),
          ),
          open_more ∙ ap (λ l. l ++ value_list (S x)) all.4 ∙ append_assoc first (values_of S all.0) (value_list (S x)) ∙ ap (λ l. first ++ l) (sym (values_more S all.0 x)),
        )

    taken_one : TakesUp S x mid new later last → TakesUpAll S Q old new first last
    taken_one t = elim t [ inl p ↦ taken_before p.0 p.1 p.2 | inr p ↦ taken_now p.2 p.0 p.1 ]

  pub taken_next : (xs : List VarName) (i : ℕ) (d : VarName) (old mid new : Variables) (first later last : List Tree) → i < length xs
      → TakesUpAll S (λ x. In x (take i xs)) old mid first later → TakesUp S (get_or xs i d) mid new later last → TakesUpAll S (λ x. In x (take (i + 1) xs)) old new first last
  taken_next xs i d old mid new first later last h all one =
      let x = get_or xs i d in
      let longer : take (i + 1) xs ≡ take i xs ++ x ∷ [] = take_more xs i d h in
      taken_one {P = λ y. In y (take i xs)} {Q = λ y. In y (take (i + 1) xs)} x old mid new first later last
      (λ y. (
        λ j. in_more (take i xs) x y (subst (In y) longer j),
        λ c. subst (In y) (sym longer) (elim c [ inl j ↦ in_left (take i xs) (x ∷ []) y j | inr e ↦ in_right (take i xs) (x ∷ []) y (inl e) ]),
      ))
      all one

  -- the same by another word
  pub taken_as : {P Q : VarName → Type 0} (old new : Variables) (first last : List Tree) → ((x : VarName) → P x ↔ Q x) → TakesUpAll S P old new first last → TakesUpAll S Q old new first last
  taken_as old new first last is all = (
    all.0,
    all.1,
    λ x. (λ i. let c = (all.2 x).0 i in ((is x).0 c.0, c.1), λ p. (all.2 x).1 ((is x).1 p.0, p.1)),
    λ x. (
      λ i. elim ((all.3 x).0 i) [ inl was ↦ inl was | inr p ↦ inr ((is x).0 p) ],
      λ c. (all.3 x).1 (elim c [ inl was ↦ inl was | inr q ↦ inr ((is x).1 q) ]),
    ),
    all.4,
  )

-- the search goes on at the values of a tree's variables, in place of the tree
pub takes_up_all : {T : VarName → Option Tree} {from : List Tree} (reached now : Variables) (open_ones rest after : List Tree) (t : Tree) → open_ones ≡ rest ++ t ∷ [] → TakesUpAll T (λ x. Occurs x t) reached now rest after
    → Reaching T from reached open_ones → Reaching T from now after
takes_up_all {T = T} {from = from} reached now open_ones rest after t e all s =
    subst (Reaching T from now) (sym all.4)
    (replaced reached now rest (values_of T all.0) t (subst (Reaching T from reached) e s)
    (λ y i. (all.3 y).1 (inl i))
    (λ y o. inl ((all.3 y).1 (inr o)))
    (λ x i. elim ((all.3 x).0 i) [
      | inl was ↦ inl was
      | inr o ↦ elim (true_decided (set.contains reached x)) [
        | inl was ↦ inl was
        | inr n ↦ inr (o, λ u b. among_values T all.0 x u ((all.2 x).1 (o, n)) b)
      ]
    ])
    (λ u i z r. let w = of_values T all.0 u i in through ((all.2 w.0).0 w.1).0 w.2 r))

-- how large the value of a variable is
abbrev value_size : StoreValue → VarName → ℕ
value_size s x = sizes s (value_list (value_at s x))

sizes_append : (s : StoreValue) (ts us : List Tree) → sizes s (ts ++ us) ≡ sizes s ts + sizes s us
sizes_append s [] us = omega arith
sizes_append s (t ∷ ts) us = let r = sizes_append s ts us in omega (arith, r)

values_size : (s : StoreValue) (xs : List VarName) → sizes s (values_of (value_at s) xs) ≡ sum_by (value_size s) xs
values_size s [] = refl
values_size s (x ∷ xs) =
    sizes_append s (value_list (value_at s x)) (values_of (value_at s) xs) ∙ ap (λ n. sizes s (value_list (value_at s x)) + n) (values_size s xs) ∙ sym (sum_by-cons (value_size s) x xs)

-- variables that stand once in a list are no more than those of another list in which they stand
sum_within : (f : VarName → ℕ) (xs ys : List VarName) → StandOnce xs → ((x : VarName) → In x xs → In x ys) → sum_by f xs ≤ sum_by f ys
sum_within f [] ys o all = omega arith
sum_within f (x ∷ xs) ys o all =
    let w = in_splits ys x (all x (inl refl)) in
    let others : (y : VarName) → In y xs → In y (w.0 ++ w.1) = λ y i. elim (in_either w.0 (x ∷ w.1) y (subst (In y) w.2 (all y (inr i)))) [
      | inl a ↦ in_left w.0 w.1 y a
      | inr b ↦ elim b [ inl e ↦ absurd (o.0 (subst (λ z. In z xs) e i)) | inr c ↦ in_right w.0 w.1 y c ]
    ] in
    let less : sum_by f xs ≤ sum_by f (w.0 ++ w.1) = sum_within f xs (w.0 ++ w.1) o.1 others in
    let whole : sum_by f ys ≡ sum_by f w.0 + sum_by f (x ∷ w.1) = ap (sum_by f) w.2 ∙ sum_by-append f w.0 (x ∷ w.1) in
    omega (arith, less, whole, sum_by-append f w.0 w.1, sum_by-cons f x w.1, sum_by-cons f x xs)

-- the values of all variables of a tree are smaller than the tree with its variables replaced
mutual
  smaller_values : (s : StoreValue) → IsAcyclic (value_at s) → (t : Tree) → sum_by (value_size s) (variables t) < size s t
  smaller_values s h (variable x) =
      let alone : sum_by (value_size s) (x ∷ []) ≡ value_size s x + 0 = sum_by-cons (value_size s) x [] in
      let below : value_size s x < size s (variable x) = elim (value_at s x) as (λ o. value_at s x ≡ o → sizes s (value_list o) < size s (variable x)) [
        | Some u ↦ λ e. let z = size_variable s h x u e in omega (arith, z)
        | None ↦ λ e. size_positive s (variable x)
      ] refl in
      omega (arith, alone, below)
  smaller_values s h (integer k) = size_positive s (integer k)
  smaller_values s h (node f ts) = let all = smaller_values_of_all s h ts in omega (arith, all)

  smaller_values_of_all : (s : StoreValue) → IsAcyclic (value_at s) → (ts : Trees) → sum_by (value_size s) (variables_of_all ts) ≤ size_all s ts
  smaller_values_of_all s h none = omega arith
  smaller_values_of_all s h (more t ts) =
      let one = smaller_values s h t in
      let all = smaller_values_of_all s h ts in
      let both = sum_by-append (value_size s) (variables t) (variables_of_all ts) in
      omega (arith, one, all, both)

pub takes_up_all_falls : (s : StoreValue) → IsAcyclic (value_at s) → (reached now : Variables) (open_ones rest after : List Tree) (t : Tree) → open_ones ≡ rest ++ t ∷ []
    → TakesUpAll (value_at s) (λ x. Occurs x t) reached now rest after → sizes s after < sizes s open_ones
takes_up_all_falls s h reached now open_ones rest after t e all =
    let before = ap (sizes s) e ∙ sizes_append s rest (t ∷ []) in
    let then = ap (sizes s) all.4 ∙ sizes_append s rest (values_of (value_at s) all.0) in
    let values = values_size s all.0 in
    let fewer = sum_within (value_size s) all.0 (variables t) all.1 (λ x i. in_variables t x ((all.2 x).0 i).0) in
    let less = smaller_values s h t in
    omega (arith, before, then, values, fewer, less)
