-- Each step keeps the rule.
use Rattle.ghc_pool.proofs.Words.{◌≡◌, ◌≢◌, ℕ, zero, suc, ◌+◌, ◌-◌, ◌<◌, ◌≤◌, List, [], ◌∷◌, ◌++◌, length, set, refl, sym, ap, ◌∙◌, subst, ⊎_elim, arith, length-append, Pushes, Forks, Merges, Finds, GoalName, at_set, at_snoc, Hand, hand, all_parts, weigh, total, IdleIsEmpty, Balanced}
use mathlib.Core.Option.{some, some-ne-none, some-injective}
use lib.ListN.{get_elem?}
use Rattle.crossbeam_deque.specs.Tasks.{Takes}

pub weigh-append : (h : GoalName → ℕ) (xs ys : List GoalName) → weigh h (xs ++ ys) ≡ weigh h xs + weigh h ys
weigh-append h [] ys = omega arith
weigh-append h (x ∷ xs) ys = omega (arith, weigh-append h xs ys)

total_set : (f : Hand → ℕ) (views : List Hand) (port : ℕ) (v w : Hand) → get_elem? views port ≡ some v → total f (set views port w) + f v ≡ total f views + f w
total_set f [] port v w e = absurd (some-ne-none v (sym e))
total_set f (x ∷ xs) zero v w e = omega (arith, ap f (some-injective x v e))
total_set f (x ∷ xs) (suc port) v w e = omega (arith, total_set f xs port v w e)

total_snoc : (f : Hand → ℕ) (views : List Hand) (w : Hand) → total f (views ++ w ∷ []) ≡ total f views + f w
total_snoc f [] w = omega arith
total_snoc f (x ∷ xs) w = omega (arith, total_snoc f xs w)

idle_set : (views : List Hand) (port : ℕ) (w : Hand) → (w.parts ≡ 0 → (w.put ≡ []) × (w.got ≡ [])) → IdleIsEmpty views → IdleIsEmpty (set views port w)
idle_set views port w mine idle j u e = ⊎_elim (λ (x : (j ≡ port) × (w ≡ u)). subst (λ (y : Hand). y.parts ≡ 0 → (y.put ≡ []) × (y.got ≡ [])) x.1 mine)
    (λ (x : (j ≢ port) × (get_elem? views j ≡ some u)). idle j u x.1) (at_set views port j w u e)

idle_snoc : (views : List Hand) (w : Hand) → (w.parts ≡ 0 → (w.put ≡ []) × (w.got ≡ [])) → IdleIsEmpty views → IdleIsEmpty (views ++ w ∷ [])
idle_snoc views w mine idle j u e = ⊎_elim (λ was. idle j u was) (λ (same : w ≡ u). subst (λ (y : Hand). y.parts ≡ 0 → (y.put ≡ []) × (y.got ≡ [])) same mine) (at_snoc views w u j e)

pub begins : Balanced [] (hand all_parts [] [] ∷ [])
begins = (refl, (λ h. omega arith), one)
  where
    one : IdleIsEmpty (hand all_parts [] [] ∷ [])
    one zero v e = subst (λ (y : Hand). y.parts ≡ 0 → (y.put ≡ []) × (y.got ≡ [])) (some-injective _ v e) (λ none. absurd (omega (arith, none)))
    one (suc j) v e = absurd (some-ne-none v (sym e))

pub puts : (port : ℕ) (v : Hand) (xs : List GoalName) → 0 < v.parts → Pushes Balanced port v xs (λ w. w ≡ hand v.parts (v.put ++ xs) v.got)
puts port v xs some_part items views b at =
    let w : Hand = hand v.parts (v.put ++ xs) v.got in (
      w,
      (
        (let s = total_set (λ u. u.parts) views port v w at in let p = b.0 in omega arith),
        (λ h.
            let s = total_set (λ u. weigh h u.put) views port v w at in
            let t = total_set (λ u. weigh h u.got) views port v w at in
            let p = b.1 h in
            omega (arith, weigh-append h v.put xs, weigh-append h items xs)),
        idle_set views port w (λ none. absurd (omega (arith, none, some_part))) b.2,
      ),
      refl,
    )

pub takes : (port : ℕ) (v : Hand) → 0 < v.parts → Takes Balanced port v 1 (λ xs w. w ≡ hand v.parts v.put (v.got ++ xs))
takes port v some_part xs items views _ _ b at =
    let w : Hand = hand v.parts v.put (v.got ++ xs) in (
      w,
      (
        (let s = total_set (λ u. u.parts) views port v w at in let p = b.0 in omega arith),
        (λ h.
            let s = total_set (λ u. weigh h u.put) views port v w at in
            let t = total_set (λ u. weigh h u.got) views port v w at in
            let p = b.1 h in
            omega (arith, weigh-append h v.got xs, weigh-append h xs items)),
        idle_set views port w (λ none. absurd (omega (arith, none, some_part))) b.2,
      ),
      refl,
    )

pub forks : (port : ℕ) (v : Hand) → 1 < v.parts → Forks Balanced port v (hand (v.parts - 1) v.put v.got) (hand 1 [] [])
forks port v parts items views b at =
    let l : Hand = hand (v.parts - 1) v.put v.got in
    let r : Hand = hand 1 [] [] in
    let vs : List Hand = set views port l in (
      (let s = total_set (λ u. u.parts) views port v l at in let t = total_snoc (λ u. u.parts) vs r in let p = b.0 in omega (arith, parts)),
      (λ h.
          let s = total_set (λ u. weigh h u.put) views port v l at in
          let t = total_set (λ u. weigh h u.got) views port v l at in
          let s' = total_snoc (λ u. weigh h u.put) vs r in
          let t' = total_snoc (λ u. weigh h u.got) vs r in
          let p = b.1 h in
          omega arith),
      idle_snoc vs r (λ none. absurd (omega (arith, none))) (idle_set views port l (λ none. absurd (omega (arith, none, parts))) b.2),
    )

pub merges : (port : ℕ) (v : Hand) (other : ℕ) (u : Hand) → 0 < v.parts → Merges Balanced port v other u (hand (v.parts + u.parts) (v.put ++ u.put) (v.got ++ u.got)) (hand 0 [] [])
merges port v other u some_part items views b at apart there =
    let w : Hand = hand (v.parts + u.parts) (v.put ++ u.put) (v.got ++ u.got) in
    let z : Hand = hand 0 [] [] in
    let vs : List Hand = set views port w in (
      (let s = total_set (λ y. y.parts) views port v w at in let t = total_set (λ y. y.parts) vs other u z there in let p = b.0 in omega arith),
      (λ h.
          let s = total_set (λ y. weigh h y.put) views port v w at in
          let t = total_set (λ y. weigh h y.got) views port v w at in
          let s' = total_set (λ y. weigh h y.put) vs other u z there in
          let t' = total_set (λ y. weigh h y.got) vs other u z there in
          let p = b.1 h in
          omega (arith, weigh-append h v.put u.put, weigh-append h v.got u.got)),
      idle_set vs other z (λ _. (refl, refl)) (idle_set views port w (λ none. absurd (omega (arith, none, some_part))) b.2),
    )

-- where one pass has all parts, nobody else has put or got anything
alone : (f : Hand → ℕ) (views : List Hand) (port : ℕ) (v : Hand) → ((u : Hand) → u.put ≡ [] → u.got ≡ [] → f u ≡ 0) → get_elem? views port ≡ some v → total (λ u. u.parts) views ≡ v.parts → IdleIsEmpty views → total f views ≡ f v
alone f [] port v zero_is at parts idle = absurd (some-ne-none v (sym at))
alone f (x ∷ xs) zero v zero_is at parts idle =
    let same = some-injective x v at in
    omega (arith, ap f same, rest xs (omega (arith, parts, ap (λ (y : Hand). y.parts) same)) (λ j. idle (suc j)))
  where
    rest : (ys : List Hand) → total (λ u. u.parts) ys ≡ 0 → IdleIsEmpty ys → total f ys ≡ 0
    rest [] none idle' = refl
    rest (y ∷ ys) none idle' = let e = idle' 0 y refl (omega (arith, none)) in omega (arith, zero_is y e.0 e.1, rest ys (omega (arith, none)) (λ j. idle' (suc j)))
alone f (x ∷ xs) (suc port) v zero_is at parts idle =
    let low = at_least xs port v at in
    let e = idle 0 x refl (omega (arith, parts, low)) in
    omega (arith, zero_is x e.0 e.1, alone f xs port v zero_is at (omega (arith, parts, low)) (λ j. idle (suc j)))
  where
    at_least : (ys : List Hand) (k : ℕ) (y : Hand) → get_elem? ys k ≡ some y → y.parts ≤ total (λ u. u.parts) ys
    at_least [] k y e' = absurd (some-ne-none y (sym e'))
    at_least (z ∷ zs) zero y e' = omega (arith, ap (λ (t : Hand). t.parts) (some-injective z y e'))
    at_least (z ∷ zs) (suc k) y e' = omega (arith, at_least zs k y e')

pub weigh-one : (xs : List GoalName) → weigh (λ _. 1) xs ≡ length xs
weigh-one [] = refl
weigh-one (x ∷ xs) = omega (arith, weigh-one xs)

-- who has all parts takes no more than was put
pub takes_last : (port : ℕ) (v : Hand) → v.parts ≡ all_parts → Takes Balanced port v 1 (λ xs w. (w ≡ hand v.parts v.put (v.got ++ xs)) × (length w.got ≤ length w.put))
takes_last port v all xs items views some_xs few b at =
    let put = alone (λ u. weigh (λ _. 1) u.put) views port v (λ u e _. ap (λ (l : List GoalName). weigh (λ _. 1) l) e) at (b.0 ∙ sym all) b.2 in
    let got = alone (λ u. weigh (λ _. 1) u.got) views port v (λ u _ e. ap (λ (l : List GoalName). weigh (λ _. 1) l) e) at (b.0 ∙ sym all) b.2 in
    let p = b.1 (λ _. 1) in
    let next = takes port v (omega (arith, all)) xs items views some_xs few b at in
    let few' : length (v.got ++ xs) ≤ length v.put = omega (arith, put, got, p, weigh-append (λ _. 1) xs items, weigh-one xs, weigh-one v.put, weigh-one v.got, length-append v.got xs) in
    (next.0, next.1, (next.2, subst (λ (u : Hand). length u.got ≤ length u.put) (sym next.2) few'))

pub finds : (port : ℕ) (v : Hand) → v.parts ≡ all_parts → Finds Balanced port v ((h : GoalName → ℕ) → weigh h v.put ≡ weigh h v.got)
finds port v all views b at h =
    let put = alone (λ u. weigh h u.put) views port v (λ u e _. ap (λ (l : List GoalName). weigh h l) e) at (b.0 ∙ sym all) b.2 in
    let got = alone (λ u. weigh h u.got) views port v (λ u _ e. ap (λ (l : List GoalName). weigh h l) e) at (b.0 ∙ sym all) b.2 in
    let p = b.1 h in
    omega arith
