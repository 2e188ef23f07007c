-- Maps that a few terms, by the places of their variables, are laid over.
use Rattle.ghc_match.proofs.Words.{◌≡◌, ◌≢◌, ℕ, zero, suc, ◌+◌, ◌<◌, ◌≤◌, true, false, cond, List, [], ◌∷◌, length, slice_get, slice_set, Some, None, refl, sym, ap, ◌∙◌, arith, Option, Bor, eq_by_cmp, VarName, name_cmp, var_inj, Tree, StoreValue, value_at, name_total, name_antisymmetric, same_name, itself, apart, option_copied, with_one, laid_over, HasNoneBefore}
use Rattle.std.specs.FinMap as finite

abbrev Lent : Type 0
Lent = List (Option (Bor Tree))

abbrev pub at_place : ℕ → VarName
at_place k = record { step = 0; place = k }

-- what a map holds where a variable stands for a term from now on
here : (m : StoreValue) (x : VarName) (t : Tree) → value_at (finite.insert m x t) x ≡ Some t
here m x t = finite.get-insert name_total m x t x ∙ ap (λ b. cond b (Some t) (value_at m x)) (itself x)

elsewhere : (m : StoreValue) (x : VarName) (t : Tree) (q : VarName) → q ≢ x → value_at (finite.insert m x t) q ≡ value_at m q
elsewhere m x t q n = finite.get-insert name_total m x t q ∙ ap (λ b. cond b (Some t) (value_at m q)) (apart q x n)

-- one variable twice
again : (m : StoreValue) (x : VarName) (u t : Tree) → finite.insert m x t ≡ finite.insert (finite.insert m x u) x t
again m x u t = finite.same_map name_total name_antisymmetric _ _ (λ q.
    finite.get-insert name_total m x t q
    ∙ (elim (eq_by_cmp name_cmp q x) as (λ b. cond b (Some t) (value_at m q) ≡ cond b (Some t) (cond b (Some u) (value_at m q))) [ true ↦ refl | false ↦ refl ])
    ∙ ap (cond (eq_by_cmp name_cmp q x) (Some t)) (sym (finite.get-insert name_total m x u q))
    ∙ sym (finite.get-insert name_total (finite.insert m x u) x t q))

-- two variables in either order
swap : (m : StoreValue) (x y : VarName) (t u : Tree) → x ≢ y → finite.insert (finite.insert m x t) y u ≡ finite.insert (finite.insert m y u) x t
swap m x y t u n = finite.same_map name_total name_antisymmetric _ _ (λ q.
    finite.get-insert name_total (finite.insert m x t) y u q
    ∙ ap (cond (eq_by_cmp name_cmp q y) (Some u)) (finite.get-insert name_total m x t q)
    ∙ (elim (eq_by_cmp name_cmp q y) as (λ b. eq_by_cmp name_cmp q y ≡ b → cond b (Some u) (cond (eq_by_cmp name_cmp q x) (Some t) (value_at m q)) ≡ cond (eq_by_cmp name_cmp q x) (Some t) (cond b (Some u) (value_at m q))) [
      | true ↦ λ e. ap (λ c. cond c (Some t) (Some u)) (sym (apart q x (λ s. n (sym s ∙ same_name q y e))))
      | false ↦ λ e. refl
    ] refl)
    ∙ ap (cond (eq_by_cmp name_cmp q x) (Some t)) (sym (finite.get-insert name_total m y u q))
    ∙ sym (finite.get-insert name_total (finite.insert m y u) x t q))

-- The variable is none of those at the places from k on.
abbrev pub IsApart : ℕ → Lent → VarName → Type 0
IsApart k os x = (j : ℕ) → k ≤ j → j < k + length os → x ≢ at_place j

first_apart : (k : ℕ) (o : Option (Bor Tree)) (os : Lent) (x : VarName) → IsApart k (o ∷ os) x → x ≢ at_place k
first_apart k o os x a = a k (omega arith) (omega arith)

rest_apart : (k : ℕ) (o : Option (Bor Tree)) (os : Lent) (x : VarName) → IsApart k (o ∷ os) x → IsApart (suc k) os x
rest_apart k o os x a j l h = a j (omega (arith, l)) (omega (arith, h))

pub apart_by_step : (k : ℕ) (os : Lent) (x : VarName) → x.step ≢ 0 → IsApart k os x
apart_by_step k os x n j l h e = n (ap (λ (y : VarName). y.step) e)

pub apart_past : (k : ℕ) (os : Lent) (x : VarName) → k + length os ≤ x.place → IsApart k os x
apart_past k os x p j l h e = let same : x.place ≡ j = ap (λ (y : VarName). y.place) e in omega (arith, p, h, same)

apart_before : (k : ℕ) (os : Lent) (x : VarName) → x.place < k → IsApart k os x
apart_before k os x p j l h e = let same : x.place ≡ j = ap (λ (y : VarName). y.place) e in omega (arith, p, l, same)

-- a variable that is none of them
pub outside : (k : ℕ) (os : Lent) (m : StoreValue) (x : VarName) → IsApart k os x → value_at (laid_over k os m) x ≡ value_at m x
outside k [] m x a = refl
outside k (None ∷ os) m x a = outside (suc k) os m x (rest_apart k None os x a)
outside k (Some t ∷ os) m x a =
    elsewhere (laid_over (suc k) os m) (at_place k) t.now x (first_apart k (Some t) os x a) ∙ outside (suc k) os m x (rest_apart k (Some t) os x a)

pub put_beside : (k : ℕ) (os : Lent) (m : StoreValue) (x : VarName) (t : Tree) → IsApart k os x → laid_over k os (finite.insert m x t) ≡ finite.insert (laid_over k os m) x t
put_beside k [] m x t a = refl
put_beside k (None ∷ os) m x t a = put_beside (suc k) os m x t (rest_apart k None os x a)
put_beside k (Some u ∷ os) m x t a =
    ap (λ z. finite.insert z (at_place k) u.now) (put_beside (suc k) os m x t (rest_apart k (Some u) os x a))
    ∙ swap (laid_over (suc k) os m) x (at_place k) t u.now (first_apart k (Some u) os x a)

-- one of them
named : (x : VarName) (k : ℕ) → x.step ≡ 0 → x.place ≡ k → x ≡ at_place k
named x k s p = var_inj x (at_place k) s p

pub found : (k : ℕ) (os : Lent) (m : StoreValue) (i : ℕ) (x : VarName) (t : Bor Tree) → slice_get os i ≡ Some (Some t) → x.step ≡ 0 → x.place ≡ k + i → value_at (laid_over k os m) x ≡ Some t.now
found k [] m i x t e s p = cc
found k (o ∷ os) m zero x t e s p =
    let there : o ≡ Some t = cc in
    let is : x ≡ at_place k = named x k s (omega (arith, p)) in
    ap (λ z. value_at (with_one k z (laid_over (suc k) os m)) x) there ∙ ap (value_at (finite.insert (laid_over (suc k) os m) (at_place k) t.now)) is ∙ here (laid_over (suc k) os m) (at_place k) t.now
found k (None ∷ os) m (suc i) x t e s p = found (suc k) os m i x t e s (omega (arith, p))
found k (Some u ∷ os) m (suc i) x t e s p =
    elsewhere (laid_over (suc k) os m) (at_place k) u.now x (λ q. let same : x.place ≡ k = ap (λ (y : VarName). y.place) q in omega (arith, same, p))
    ∙ found (suc k) os m i x t e s (omega (arith, p))

pub missing : (k : ℕ) (os : Lent) (m : StoreValue) (i : ℕ) (x : VarName) → slice_get os i ≡ Some None → x.step ≡ 0 → x.place ≡ k + i → value_at (laid_over k os m) x ≡ value_at m x
missing k [] m i x e s p = cc
missing k (o ∷ os) m zero x e s p =
    let there : o ≡ None = cc in
    ap (λ z. value_at (with_one k z (laid_over (suc k) os m)) x) there ∙ outside (suc k) os m x (apart_before (suc k) os x (omega (arith, p)))
missing k (None ∷ os) m (suc i) x e s p = missing (suc k) os m i x e s (omega (arith, p))
missing k (Some u ∷ os) m (suc i) x e s p =
    elsewhere (laid_over (suc k) os m) (at_place k) u.now x (λ q. let same : x.place ≡ k = ap (λ (y : VarName). y.place) q in omega (arith, same, p))
    ∙ missing (suc k) os m i x e s (omega (arith, p))

-- a variable at one of the first places stands for what is lent there
pub lent_there : (os : Lent) (m : StoreValue) (x : VarName) (o : Option (Bor Tree)) → HasNoneBefore 8 m → slice_get os x.place ≡ Some o → x.step ≡ 0 → x.place < 8 → option_copied o ≡ value_at (laid_over 0 os m) x
lent_there os m x None none e s p = sym (missing 0 os m x.place x e s (omega arith) ∙ none x s p)
lent_there os m x (Some t) none e s p = sym (found 0 os m x.place x t e s (omega arith))

-- the others stand for nothing at the first places
pub none_before_put : (n : ℕ) (m : StoreValue) (x : VarName) (t : Tree) → HasNoneBefore n m → (x.step ≡ 0 → n ≤ x.place) → HasNoneBefore n (finite.insert m x t)
none_before_put n m x t none behind y s p =
    elsewhere m x t y (λ q. let step = ap (λ (z : VarName). z.step) q in let place = ap (λ (z : VarName). z.place) q in let far = behind (sym step ∙ s) in omega (arith, far, place, p)) ∙ none y s p

pub put_there : (k : ℕ) (os : Lent) (m : StoreValue) (i : ℕ) (x : VarName) (t : Bor Tree) → i < length os → x.step ≡ 0 → x.place ≡ k + i → laid_over k (slice_set os i (Some t)) m ≡ finite.insert (laid_over k os m) x t.now
put_there k [] m i x t h s p = absurd (omega (arith, h))
put_there k (None ∷ os) m zero x t h s p =
    ap (λ y. finite.insert (laid_over (suc k) os m) y t.now) (sym (named x k s (omega (arith, p))))
put_there k (Some u ∷ os) m zero x t h s p =
    again (laid_over (suc k) os m) (at_place k) u.now t.now ∙ ap (λ y. finite.insert (finite.insert (laid_over (suc k) os m) (at_place k) u.now) y t.now) (sym (named x k s (omega (arith, p))))
put_there k (None ∷ os) m (suc i) x t h s p = put_there (suc k) os m i x t (omega (arith, h)) s (omega (arith, p))
put_there k (Some u ∷ os) m (suc i) x t h s p =
    ap (λ z. finite.insert z (at_place k) u.now) (put_there (suc k) os m i x t (omega (arith, h)) s (omega (arith, p)))
    ∙ swap (laid_over (suc k) os m) x (at_place k) t.now u.now (λ q. let same : x.place ≡ k = ap (λ (y : VarName). y.place) q in omega (arith, same, p))
