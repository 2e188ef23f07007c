-- Two lists of numbers that go up, in one.
use Rattle.ghc_flat.proofs.Words.{◌≡◌, ℕ, Bool, true, false, cond, ◌||◌, List, [], ◌∷◌, filter, refl, sym, ap, ◌∙◌, inl, inr, subst, arith, nat_lt, lt-ltb, le-ltb, In, merged, merged_with}
use Rattle.ghc_flat.proofs.Numbers.{Climbs, climbs_lower}

pub merged_nothing : (ks : List ℕ) → merged ks [] ≡ ks
merged_nothing [] = refl
merged_nothing (k ∷ ks) = refl

-- what is below both lists comes first
merged_left : (k : ℕ) (ks js : List ℕ) → Climbs k js → merged (k ∷ ks) js ≡ k ∷ merged ks js
merged_left k ks [] c = ap (λ l. k ∷ l) (sym (merged_nothing ks))
merged_left k ks (j ∷ js) c =
    let above : nat_lt j k ≡ false = le-ltb j k (omega (arith, c.0)) in
    ap (λ b. cond b (j ∷ merged_with k ks (merged ks) js) (k ∷ merged ks (j ∷ js))) above

merged_right : (j : ℕ) (js ks : List ℕ) → Climbs j ks → merged ks (j ∷ js) ≡ j ∷ merged ks js
merged_right j js [] c = refl
merged_right j js (k ∷ ks) c =
    let below : nat_lt j k ≡ true = lt-ltb j k c.0 in
    ap (λ b. cond b (j ∷ merged_with k ks (merged ks) js) (k ∷ merged ks (j ∷ js))) below

climbs_filter : (p : ℕ → Bool) (k : ℕ) (js : List ℕ) → Climbs k js → Climbs k (filter p js)
climbs_filter p k [] c = tt
climbs_filter p k (j ∷ js) c =
    elim (p j) as (λ b. Climbs k (cond b (j ∷ filter p js) (filter p js))) [
      | true ↦ (c.0, climbs_filter p j js c.1)
      | false ↦ climbs_lower k j (filter p js) (omega (arith, c.0)) (climbs_filter p j js c.1)
    ]

-- one number more, which one of the tests picks at most
merged_step : (a b : Bool) (k : ℕ) (ps qs rs : List ℕ) → ¬ ((a ≡ true) × (b ≡ true)) → Climbs k ps → Climbs k qs → merged ps qs ≡ rs → merged (cond a (k ∷ ps) ps) (cond b (k ∷ qs) qs) ≡ cond (a || b) (k ∷ rs) rs
merged_step true true k ps qs rs apart cp cq e = absurd (apart (refl, refl))
merged_step true false k ps qs rs apart cp cq e = merged_left k ps qs cq ∙ ap (λ l. k ∷ l) e
merged_step false true k ps qs rs apart cp cq e = merged_right k qs ps cp ∙ ap (λ l. k ∷ l) e
merged_step false false k ps qs rs apart cp cq e = e

-- what two tests pick that do not both hold, merged
pub merged_filters : (p q : ℕ → Bool) → ((k : ℕ) → ¬ ((p k ≡ true) × (q k ≡ true))) → (m : ℕ) (ks : List ℕ) → Climbs m ks → merged (filter p ks) (filter q ks) ≡ filter (λ k. p k || q k) ks
merged_filters p q apart m [] c = refl
merged_filters p q apart m (k ∷ ks) c =
    merged_step (p k) (q k) k (filter p ks) (filter q ks) (filter (λ j. p j || q j) ks) (apart k) (climbs_filter p k ks c.1) (climbs_filter q k ks c.1) (merged_filters p q apart k ks c.1)

-- what a test picks
pub in_filter : (p : ℕ → Bool) (ks : List ℕ) (k : ℕ) → In k (filter p ks) → In k ks
in_filter p [] k h = absurd h
in_filter p (j ∷ ks) k h =
    elim (p j) as (λ b. In k (cond b (j ∷ filter p ks) (filter p ks)) → In k (j ∷ ks)) [
      | true ↦ λ i. elim i [ inl e ↦ inl e | inr r ↦ inr (in_filter p ks k r) ]
      | false ↦ λ i. inr (in_filter p ks k i)
    ] h

pub filter_in : (p : ℕ → Bool) (ks : List ℕ) (k : ℕ) → In k ks → p k ≡ true → In k (filter p ks)
filter_in p [] k i y = absurd i
filter_in p (j ∷ ks) k (inl e) y =
    let yes : p j ≡ true = subst (λ m. p m ≡ true) e y in
    subst (λ b. In k (cond b (j ∷ filter p ks) (filter p ks))) (sym yes) (inl e)
filter_in p (j ∷ ks) k (inr i) y =
    let rest = filter_in p ks k i y in
    elim (p j) as (λ b. In k (cond b (j ∷ filter p ks) (filter p ks))) [
      | true ↦ inr rest
      | false ↦ rest
    ]
