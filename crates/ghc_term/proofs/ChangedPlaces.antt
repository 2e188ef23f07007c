-- Names and values in two lists beside each other, and the place of each name in them: after a value is put, and after one is taken.
use Rattle.ghc_term.proofs.Words.{◌≡◌, ◌≢◌, ◌<◌, ◌≤◌, ◌+◌, ℕ, cond, Bool, true, false, List, Option, [], ◌∷◌, ◌++◌, inl, inr, length, refl, sym, ap, ◌∙◌, subst, nat_eq, nat_tests, arith, ◌^◌, Some, None, slice_get, slice_set, IsTrue, is_some, swap_remove, eq_by_cmp, option_map, length-set, GoalName, goal_cmp, values_by, ArePlaces}
use Rattle.std.specs.FinMap as finite
use Rattle.ghc_term.proofs.GoalNames.{goal_total, goal_antisymmetric, same_goal, itself, apart}
use Rattle.ghc_term.proofs.PlacedGoals.{value_at, held_is, within, elsewhere}
use Rattle.ghc_term.proofs.Placing.{one_value, push_last, push_before, push_either, set_same, set_other, shorter, stays, came, same_number, other_number}

length_push : {X : Type 0} (xs : List X) (x : X) → length (xs ++ x ∷ []) ≡ length xs + 1
length_push [] x = refl
length_push (y ∷ xs) x = let rest = length_push xs x in omega (arith, rest)

at_last : (i k p : ℕ) → p ≡ k → cond (nat_eq i k) p i ≡ i
at_last i k p e = grind (arith, nat_tests)

only_last : (m k p : ℕ) → m ≢ p → cond (nat_eq m k) p m ≡ p → m ≡ k
only_last m k p n e = grind (arith, nat_tests)

unlike : (q x : GoalName) → eq_by_cmp goal_cmp q x ≡ false → q ≢ x
unlike q x s f = let clash : true ≡ false = sym (itself x) ∙ ap (λ y. eq_by_cmp goal_cmp y x) (sym f) ∙ s in cc

-- two lists and their places hold the map that has at each name the value at its place
holds : {V : Type 0} (ns : List GoalName) (vs : List V) (places : finite.FinMap goal_cmp ℕ) (m : finite.FinMap goal_cmp V) → ArePlaces ns (length vs) places → ((q : GoalName) → value_at (finite.get places q) vs ≡ finite.get m q)
    → values_by ns vs ≡ m
holds ns vs places m h e = finite.same_map goal_total goal_antisymmetric _ _ (λ q. held_is ns vs places h q ∙ e q)

module _ {V : Type 0} (ns : List GoalName) (vs : List V) (places : finite.FinMap goal_cmp ℕ) (h : ArePlaces ns (length vs) places) (x : GoalName) where
  abbrev held : finite.FinMap goal_cmp V
  held = values_by ns vs

  -- a new name and its value, after the others
  module _ (v : V) (absent : finite.get places x ≡ None) (ms : List GoalName) (ws : List V) (placed : finite.FinMap goal_cmp ℕ) (ms_are : ms ≡ ns ++ x ∷ []) (values_are : ws ≡ vs ++ v ∷ [])
      (places_are : placed ≡ finite.insert places x (length ns)) where
    got : (q : GoalName) → finite.get placed q ≡ cond (eq_by_cmp goal_cmp q x) (Some (length ns)) (finite.get places q)
    got q = ap (λ m. finite.get m q) places_are ∙ finite.get-insert goal_total places x (length ns) q

    name_at : (i : ℕ) → slice_get ms i ≡ slice_get (ns ++ x ∷ []) i
    name_at i = ap (λ l. slice_get l i) ms_are

    there : (q : GoalName) (i : ℕ) → finite.get placed q ≡ Some i → slice_get ms i ≡ Some q
    there q i e = elim (eq_by_cmp goal_cmp q x) as (λ b. eq_by_cmp goal_cmp q x ≡ b → cond b (Some (length ns)) (finite.get places q) ≡ Some i → slice_get ms i ≡ Some q) [
      | true ↦ λ s f. subst (λ j. slice_get ms j ≡ Some q) (one_value (length ns) i f) (name_at (length ns) ∙ push_last ns x ∙ ap Some (sym (same_goal q x s)))
      | false ↦ λ s f. name_at i ∙ push_before ns x i (within ns vs places h q i f) ∙ (h.2 q i).0 f
    ] refl (sym (got q) ∙ e)

    back : (q : GoalName) (i : ℕ) → slice_get ms i ≡ Some q → finite.get placed q ≡ Some i
    back q i e = elim (push_either ns x q i (sym (name_at i) ∙ e)) [
      | inl a ↦
          let f = (h.2 q i).1 a in
          got q ∙ ap (λ b. cond b (Some (length ns)) (finite.get places q)) (apart q x (λ s. let clash : Some i ≡ None = sym f ∙ ap (finite.get places) s ∙ absent in cc)) ∙ f
      | inr b ↦ got q ∙ ap (λ c. cond c (Some (length ns)) (finite.get places q)) (ap (λ r. eq_by_cmp goal_cmp r x) b.1 ∙ itself x) ∙ ap Some (sym b.0)
    ]

    pub put_places : length ns + 1 < 2 ^ 32 → ArePlaces ms (length ws) placed
    put_places room =
        let a = ap length ms_are ∙ length_push ns x in
        let b = ap length values_are ∙ length_push vs v in
        (omega (arith, a, b, h.0), omega (arith, a, room), λ q i. (there q i, back q i))

    kept : (q : GoalName) → value_at (finite.get places q) ws ≡ value_at (finite.get places q) vs
    kept q = elim (finite.get places q) as (λ o. finite.get places q ≡ o → value_at o ws ≡ value_at o vs) [
      | None ↦ λ e. refl
      | Some i ↦ λ e. let at = within ns vs places h q i e in ap (λ l. slice_get l i) values_are ∙ push_before vs v i (omega (arith, h.0, at))
    ] refl

    pub put_held : length ns + 1 < 2 ^ 32 → values_by ms ws ≡ finite.insert held x v
    put_held room = holds ms ws placed (finite.insert held x v) (put_places room) (λ q.
        ap (λ o. value_at o ws) (got q) ∙ elim (eq_by_cmp goal_cmp q x) as (λ b. value_at (cond b (Some (length ns)) (finite.get places q)) ws ≡ cond b (Some v) (finite.get held q)) [
          | true ↦ ap (slice_get ws) (sym h.0) ∙ ap (λ l. slice_get l (length vs)) values_are ∙ push_last vs v
          | false ↦ kept q ∙ sym (held_is ns vs places h q)
        ] ∙ sym (finite.get-insert goal_total held x v q))

  module _ (p : ℕ) (at : finite.get places x ≡ Some p) where
    -- another value under a name
    pub set_held : (v : V) → values_by ns (slice_set vs p v) ≡ finite.insert held x v
    set_held v = holds ns (slice_set vs p v) places (finite.insert held x v) (length-set vs p v ∙ h.0, h.1, h.2) (λ q.
        elim (eq_by_cmp goal_cmp q x) as (λ b. eq_by_cmp goal_cmp q x ≡ b → value_at (finite.get places q) (slice_set vs p v) ≡ cond b (Some v) (finite.get held q)) [
          | true ↦ λ s.
              let inside = within ns vs places h x p at in
              ap (λ r. value_at (finite.get places r) (slice_set vs p v)) (same_goal q x s) ∙ ap (λ o. value_at o (slice_set vs p v)) at ∙ set_same vs p v (omega (arith, h.0, inside))
          | false ↦ λ s. elim (finite.get places q) as (λ o. finite.get places q ≡ o → value_at o (slice_set vs p v) ≡ value_at o vs) [
            | None ↦ λ e. refl
            | Some i ↦ λ e. set_other vs p i v (elsewhere ns vs places h q x i p e at (unlike q x s))
          ] refl ∙ sym (held_is ns vs places h q)
        ] refl ∙ sym (finite.get-insert goal_total held x v q))

    -- a name and its value that are gone, where the last ones take their places
    module _ (d : GoalName) (u : V) (rest : List GoalName) (values : List V) (rest_is : rest ≡ swap_remove ns p d) (values_are : values ≡ swap_remove vs p u) where
      last : length ns ≡ length rest + 1
      last = let low = within ns vs places h x p at in omega (arith, low, ap length rest_is, shorter ns p d)

      same_length : length values ≡ length rest
      same_length = omega (arith, last, ap length values_are, shorter vs p u, h.0)

      abbrev place : ℕ → ℕ
      place i = cond (nat_eq i (length rest)) p i

      abbrev spot : GoalName → Option ℕ
      spot q = finite.get places q

      abbrev is_x : GoalName → Bool
      is_x q = eq_by_cmp goal_cmp q x

      stays_there : (q : GoalName) (i : ℕ) → q ≢ x → spot q ≡ Some i → (slice_get rest (place i) ≡ Some q) × (slice_get values (place i) ≡ slice_get vs i)
      stays_there q i n f =
          let low = within ns vs places h q i f in
          let low_p = within ns vs places h x p at in
          let other = elsewhere ns vs places h q x i p f at n in (
            ap (λ l. slice_get l (place i)) rest_is ∙ stays ns p (length rest) d last i low other low_p ∙ (h.2 q i).0 f,
            ap (λ l. slice_get l (place i)) values_are ∙ stays vs p (length rest) u (h.0 ∙ last) i (omega (arith, low, h.0)) other (omega (arith, low_p, h.0)),
          )

      -- places of the others that tell where they stand then
      module _ (fewer : finite.FinMap goal_cmp ℕ) (now : (q : GoalName) → finite.get fewer q ≡ cond (is_x q) None (option_map place (spot q))) where
        named : (q : GoalName) (i : ℕ) → finite.get fewer q ≡ Some i → slice_get rest i ≡ Some q
        named q i e = elim (is_x q) as (λ b. is_x q ≡ b → cond b None (option_map place (spot q)) ≡ Some i → slice_get rest i ≡ Some q) [
          | true ↦ λ s f. let clash : None ≡ Some i = f in cc
          | false ↦ λ s f. elim (spot q) as (λ o. spot q ≡ o → option_map place o ≡ Some i → slice_get rest i ≡ Some q) [
            | None ↦ λ g k. let clash : None ≡ Some i = k in cc
            | Some j ↦ λ g k. subst (λ m. slice_get rest m ≡ Some q) (one_value (place j) i k) (stays_there q j (unlike q x s) g).0
          ] refl f
        ] refl (sym (now q) ∙ e)

        placed : (q : GoalName) (i : ℕ) → slice_get rest i ≡ Some q → finite.get fewer q ≡ Some i
        placed q i g =
            let (m, stood, other, moved) = came ns p (length rest) d last i q (sym (ap (λ l. slice_get l i) rest_is) ∙ g) in
            let f : spot q ≡ Some m = (h.2 q m).1 stood in
            let n : q ≢ x = λ s. other (one_value m p (sym f ∙ ap spot s ∙ at)) in
            now q ∙ ap (λ b. cond b None (option_map place (spot q))) (apart q x n) ∙ ap (option_map place) f ∙ ap Some moved

        gone_places : ArePlaces rest (length values) fewer
        gone_places = (same_length, omega (arith, last, h.1), λ q i. (named q i, placed q i))

        value_of : (q : GoalName) → q ≢ x → value_at (option_map place (spot q)) values ≡ value_at (spot q) vs
        value_of q n = elim (spot q) as (λ o. spot q ≡ o → value_at (option_map place o) values ≡ value_at o vs) [
          | None ↦ λ e. refl
          | Some i ↦ λ e. (stays_there q i n e).1
        ] refl

        gone_is : ArePlaces rest (length values) fewer × (values_by rest values ≡ finite.remove held x)
        gone_is = (
          gone_places,
          holds rest values fewer (finite.remove held x) gone_places (λ q.
              ap (λ o. value_at o values) (now q)
              ∙ elim (is_x q) as (λ b. is_x q ≡ b → value_at (cond b None (option_map place (spot q))) values ≡ cond b None (finite.get held q)) [
                | true ↦ λ s. refl
                | false ↦ λ s. value_of q (unlike q x s) ∙ sym (held_is ns vs places h q)
              ] refl ∙ sym (finite.get-remove goal_total held x q)),
        )

      module _ (fewer : finite.FinMap goal_cmp ℕ) (fewer_is : fewer ≡ finite.remove places x) where
        left : (q : GoalName) → finite.get fewer q ≡ cond (is_x q) None (spot q)
        left q = ap (λ m. finite.get m q) fewer_is ∙ finite.get-remove goal_total places x q

        unmoved : (q : GoalName) → ((i : ℕ) → spot q ≡ Some i → place i ≡ i) → spot q ≡ option_map place (spot q)
        unmoved q same = elim (spot q) as (λ o. spot q ≡ o → o ≡ option_map place o) [ None ↦ λ e. refl | Some i ↦ λ e. ap Some (sym (same i e)) ] refl

        -- it was the last itself
        pub end_is : length rest ≤ p → ArePlaces rest (length values) fewer × (values_by rest values ≡ finite.remove held x)
        end_is end =
            let low = within ns vs places h x p at in
            gone_is fewer (λ q. left q ∙ ap (cond (is_x q) None) (unmoved q (λ i f. at_last i (length rest) p (omega (arith, low, last, end)))))

        -- another was the last
        module _ (y : GoalName) (before : p < length rest) (is : slice_get rest p ≡ Some y) where
          was : spot y ≡ Some (length rest)
          was =
              let (m, stood, other, moved) = came ns p (length rest) d last p y (sym (ap (λ l. slice_get l p) rest_is) ∙ is) in
              (h.2 y (length rest)).1 (subst (λ i. slice_get ns i ≡ Some y) (only_last m (length rest) p other moved) stood)

          apart_x : is_x y ≡ false
          apart_x = apart y x (λ s. let same = one_value (length rest) p (sym was ∙ ap spot s ∙ at) in omega (arith, same, before))

          pub moved_is_there : IsTrue (finite.contains_key fewer y)
          moved_is_there = ap is_some (left y ∙ ap (λ b. cond b None (spot y)) apart_x ∙ was)

          pub moved_is : (moved : finite.FinMap goal_cmp ℕ) → moved ≡ finite.insert fewer y p
              → ArePlaces rest (length values) moved × (values_by rest values ≡ finite.remove held x)
          moved_is moved e = gone_is moved (λ q.
              ap (λ m. finite.get m q) e ∙ finite.get-insert goal_total fewer y p q ∙ ap (cond (eq_by_cmp goal_cmp q y) (Some p)) (left q)
              ∙ elim (eq_by_cmp goal_cmp q y) as (λ c. eq_by_cmp goal_cmp q y ≡ c
              → cond c (Some p) (cond (is_x q) None (spot q)) ≡ cond (is_x q) None (option_map place (spot q))) [
                | true ↦ λ t. sym (ap (λ r. cond (is_x r) None (option_map place (spot r))) (same_goal q y t)
                    ∙ ap (λ b. cond b None (option_map place (spot y))) apart_x ∙ ap (option_map place) was
                    ∙ ap (λ b. Some (cond b p (length rest))) (same_number (length rest)))
                | false ↦ λ t.
                    let far = λ (i : ℕ) (f : spot q ≡ Some i). elsewhere ns vs places h q y i (length rest) f was (unlike q y t) in
                    ap (cond (is_x q) None) (unmoved q (λ i f. ap (λ b. cond b p i) (other_number i (length rest) (far i f))))
              ] refl)
