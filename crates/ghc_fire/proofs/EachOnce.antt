-- Each variable of a list once, where variables are renamed or left out.
use Rattle.ghc_fire.proofs.Words.{◌≡◌, ℕ, zero, suc, ◌+◌, ◌≤◌, ◌||◌, Bool, true, false, cond, List, [], ◌∷◌, map, refl, sym, ap, ◌∙◌, subst, inl, inr, arith, filter, list_any, eq_by_cmp, VarName, name_cmp, In, firsts, in_map, apart, in_any, any_in, made, made_from}

-- whether the variable was seen
abbrev is_seen : VarName → List VarName → Bool
is_seen x seen = list_any (eq_by_cmp name_cmp x) seen

-- what is in a list of renamed variables
pub map_in : (f : VarName → VarName) (xs : List VarName) (y : VarName) → In y (map f xs) → (x : VarName) × In x xs × (y ≡ f x)
map_in f [] y i = absurd i
map_in f (x ∷ xs) y (inl e) = (x, inl refl, e)
map_in f (x ∷ xs) y (inr i) = let r = map_in f xs y i in (r.0, inr r.1, r.2)

-- what stands there once stands there
pub firsts_in : (seen xs : List VarName) (y : VarName) → In y (firsts seen xs) → In y xs
firsts_in seen [] y i = absurd i
firsts_in seen (x ∷ xs) y i =
    elim (is_seen x seen) as (λ b. In y (cond b (firsts seen xs) (x ∷ firsts (x ∷ seen) xs)) → In y (x ∷ xs)) [
      | true ↦ λ j. inr (firsts_in seen xs y j)
      | false ↦ λ j. elim j [ inl e ↦ inl e | inr k ↦ inr (firsts_in (x ∷ seen) xs y k) ]
    ] i

not_seen : (x : VarName) (seen : List VarName) → ¬ In x seen → is_seen x seen ≡ false
not_seen x seen n = elim (is_seen x seen) as (λ b. is_seen x seen ≡ b → b ≡ false) [ true ↦ λ p. absurd (n (any_in x seen p)) | false ↦ λ p. refl ] refl

module _ (f : VarName → VarName) where
  seen_renamed : (x : VarName) (seen : List VarName) → ((y : VarName) → In y seen → f x ≡ f y → x ≡ y) → is_seen (f x) (map f seen) ≡ is_seen x seen
  seen_renamed x seen h = elim (is_seen x seen) as (λ b. is_seen x seen ≡ b → is_seen (f x) (map f seen) ≡ b) [
    | true ↦ λ p. in_any (f x) (map f seen) (in_map f seen x (any_in x seen p))
    | false ↦ λ p. not_seen (f x) (map f seen) (λ i.
        let r = map_in f seen (f x) i in
        let again : is_seen x seen ≡ true = in_any x seen (subst (λ z. In z seen) (sym (h r.0 r.1 r.2)) r.1) in
        let clash : true ≡ false = sym again ∙ p in
        cc)
  ] refl

  -- where no two become one, each once and then renamed is renamed and then each once
  pub renamed_firsts : (seen xs : List VarName) → ((x y : VarName) → In x xs → In y xs → f x ≡ f y → x ≡ y) → ((x y : VarName) → In x xs → In y seen → f x ≡ f y → x ≡ y)
      → firsts (map f seen) (map f xs) ≡ map f (firsts seen xs)
  renamed_firsts seen [] h k = refl
  renamed_firsts seen (x ∷ xs) h k =
      let same = seen_renamed x seen (λ y i. k x y (inl refl) i) in
      let skipped = renamed_firsts seen xs (λ y z i j. h y z (inr i) (inr j)) (λ y z i j. k y z (inr i) j) in
      let taken = renamed_firsts (x ∷ seen) xs (λ y z i j. h y z (inr i) (inr j)) (λ y z i j. elim j [
        | inl e ↦ λ q. h y z (inr i) (inl e) q
        | inr l ↦ λ q. k y z (inr i) l q
      ]) in
      elim (is_seen x seen) as (λ b. is_seen x seen ≡ b → cond (is_seen (f x) (map f seen)) (firsts (map f seen) (map f xs)) (f x ∷ firsts (f x ∷ map f seen) (map f xs)) ≡ map f (cond b (firsts seen xs) (x ∷ firsts (x ∷ seen) xs))) [
        | true ↦ λ p. rw (same ∙ p) skipped
        | false ↦ λ p. rw (same ∙ p) (ap (λ l. f x ∷ l) taken)
      ] refl

  -- each once, renamed, and then each once again is renamed and then each once
  pub firsts_twice : (seen before xs : List VarName) → ((x : VarName) → In x before → In (f x) seen) → firsts seen (map f (firsts before xs)) ≡ firsts seen (map f xs)
  firsts_twice seen before [] h = refl
  firsts_twice seen before (x ∷ xs) h =
      elim (is_seen x before) as (λ b. is_seen x before ≡ b → firsts seen (map f (cond b (firsts before xs) (x ∷ firsts (x ∷ before) xs))) ≡ cond (is_seen (f x) seen) (firsts seen (map f xs)) (f x ∷ firsts (f x ∷ seen) (map f xs))) [
        | true ↦ λ p. rw (in_any (f x) seen (h x (any_in x before p))) (firsts_twice seen before xs h)
        | false ↦ λ p. elim (is_seen (f x) seen) as (λ b. is_seen (f x) seen ≡ b → cond b (firsts seen (map f (firsts (x ∷ before) xs))) (f x ∷ firsts (f x ∷ seen) (map f (firsts (x ∷ before) xs))) ≡ cond b (firsts seen (map f xs)) (f x ∷ firsts (f x ∷ seen) (map f xs))) [
          | true ↦ λ q. firsts_twice seen (x ∷ before) xs (λ y i. elim i [ inl e ↦ subst (λ z. In (f z) seen) (sym e) (any_in (f x) seen q) | inr j ↦ h y j ])
          | false ↦ λ q. ap (λ l. f x ∷ l) (firsts_twice (f x ∷ seen) (x ∷ before) xs (λ y i. elim i [ inl e ↦ inl (ap f e) | inr j ↦ inr (h y j) ]))
        ] refl
      ] refl

module _ (test : VarName → Bool) where
  -- each once, and of these those that pass, are those that pass, each once
  pub filtered_firsts : (seen before xs : List VarName) → ((x : VarName) → test x ≡ true → is_seen x seen ≡ is_seen x before) → filter test (firsts seen xs) ≡ firsts before (filter test xs)
  filtered_firsts seen before [] h = refl
  filtered_firsts seen before (x ∷ xs) h =
      elim (test x) as (λ t. test x ≡ t → filter test (cond (is_seen x seen) (firsts seen xs) (x ∷ firsts (x ∷ seen) xs)) ≡ firsts before (cond t (x ∷ filter test xs) (filter test xs))) [
        | true ↦ λ p. elim (is_seen x seen) as (λ b. is_seen x seen ≡ b → filter test (cond b (firsts seen xs) (x ∷ firsts (x ∷ seen) xs)) ≡ cond (is_seen x before) (firsts before (filter test xs)) (x ∷ firsts (x ∷ before) (filter test xs))) [
          | true ↦ λ q. rw (sym (h x p) ∙ q) (filtered_firsts seen before xs h)
          | false ↦ λ q. rw (sym (h x p) ∙ q) (rw p (ap (λ l. x ∷ l) (filtered_firsts (x ∷ seen) (x ∷ before) xs (λ y t. ap (λ b. eq_by_cmp name_cmp y x || b) (h y t)))))
        ] refl
        | false ↦ λ p. elim (is_seen x seen) as (λ b. filter test (cond b (firsts seen xs) (x ∷ firsts (x ∷ seen) xs)) ≡ firsts before (filter test xs)) [
          | true ↦ filtered_firsts seen before xs h
          | false ↦ rw p (filtered_firsts (x ∷ seen) before xs (λ y t. rw (apart y x (λ e. let clash : true ≡ false = sym t ∙ ap test e ∙ p in cc)) (h y t)))
        ]
      ] refl

-- variables with places of their own stand there once each
made_once : (n i k : ℕ) (seen : List VarName) → ((j : ℕ) → i ≤ j → is_seen (made n j) seen ≡ false) → firsts seen (made_from n i k) ≡ made_from n i k
made_once n i zero seen h = refl
made_once n i (suc k) seen h =
    rw (h i (omega arith)) (ap (λ l. made n i ∷ l) (made_once n (i + 1) k (made n i ∷ seen) (λ j l.
    rw (apart (made n j) (made n i) (λ e. let place : j ≡ i = ap (λ (v : VarName). v.place) e in omega (arith, place, l))) (h j (omega (arith, l))))))

pub made_firsts : (n i k : ℕ) → firsts [] (made_from n i k) ≡ made_from n i k
made_firsts n i k = made_once n i k [] (λ j l. refl)
