-- The fresh variables of a clause have the numbers after those of its head.
use Rattle.ghc_flat.proofs.Words.{◌-◌, length-append, ◌≡◌, ℕ, suc, ◌+◌, Bool, ◌||◌, cond, List, [], ◌∷◌, ◌++◌, length, append_assoc, inl, inr, refl, sym, ap, ◌∙◌, arith, Some, slice_get, reverse, list_any, eq_by_cmp, IsPermutation-reverse, list_any-IsPermutation, VarName, name_cmp, In, in_any, AreNumbered, Test, Clause, IsFlat, asked, firsts, variables_of_list, variables_of_test, variables_of_tests, variables_of_goals, variables_of_clause, fresh_variables, Rises, in_either}
use mathlib.Core.List.{reverse_aux}
use Rattle.ghc_flat.proofs.Rising.{ArePlacedUpTo, not_in_any, above_absent, placed_more}

-- whether the variable is one of those seen
abbrev is_seen : VarName → List VarName → Bool
is_seen y s = list_any (eq_by_cmp name_cmp y) s

-- what was seen matters, and not its order
firsts_same : (xs s t : List VarName) → ((y : VarName) → is_seen y s ≡ is_seen y t) → firsts s xs ≡ firsts t xs
firsts_same [] s t h = refl
firsts_same (x ∷ xs) s t h =
    let skipped = firsts_same xs s t h in
    let taken = firsts_same xs (x ∷ s) (x ∷ t) (λ y. ap (λ b. eq_by_cmp name_cmp y x || b) (h y)) in
    λ i. cond (h x i) (skipped i) (x ∷ taken i)

-- what was seen is passed over
firsts_skip : (xs ys s : List VarName) → ((y : VarName) → In y xs → In y s) → firsts s (xs ++ ys) ≡ firsts s ys
firsts_skip [] ys s h = refl
firsts_skip (x ∷ xs) ys s h =
    ap (λ b. cond b (firsts s (xs ++ ys)) (x ∷ firsts (x ∷ s) (xs ++ ys))) (in_any x s (h x (inl refl))) ∙ firsts_skip xs ys s (λ y i. h y (inr i))

firsts_front : (front : List VarName) (k : ℕ) (seen rest : List VarName) → Rises k front → ArePlacedUpTo k seen → firsts seen (front ++ rest) ≡ front ++ firsts (reverse_aux front seen) rest
firsts_front [] k seen rest r b = refl
firsts_front (y ∷ ys) k seen rest r b =
    ap (λ t. cond t (firsts seen (ys ++ rest)) (y ∷ firsts (y ∷ seen) (ys ++ rest))) (not_in_any y seen (above_absent k seen y r.0 b))
    ∙ ap (λ l. y ∷ l) (firsts_front ys (k + 1) (y ∷ seen) rest r.1 (placed_more k seen y r.0 b))

behind : (xs ys : List VarName) (i : ℕ) → slice_get (xs ++ ys) (length xs + i) ≡ slice_get ys i
behind [] ys i = let same : 0 + i ≡ i = omega arith in ap (slice_get ys) same
behind (x ∷ xs) ys i =
    let same : length (x ∷ xs) + i ≡ suc (length xs + i) = omega arith in
    ap (slice_get (x ∷ xs ++ ys)) same ∙ behind xs ys i

-- a variable of the tests is one of a test
of_a_test : (ts : List Test) (x : VarName) → In x (variables_of_tests ts) → (t : Test) × In t ts × In x (variables_of_test t)
of_a_test [] x i = absurd i
of_a_test (t ∷ ts) x i = elim (in_either (variables_of_test t) (variables_of_tests ts) x i) [
  | inl j ↦ (t, inl refl, j)
  | inr j ↦ let r = of_a_test ts x j in (r.0, inr r.1, r.2)
]

-- a clause has the variables of its head, and then its fresh ones
firsts_of_clause : (c : Clause) → Rises 0 (variables_of_list c.head) → IsFlat c → firsts [] (variables_of_clause c) ≡ variables_of_list c.head ++ fresh_variables c
firsts_of_clause c r flat =
    let head = variables_of_list c.head in
    let tests = variables_of_tests c.tests in
    let body = variables_of_goals c.body in
    let in_head : (y : VarName) → In y (variables_of_tests c.tests) → In y (variables_of_list c.head) = λ y j. let t = of_a_test c.tests y j in flat t.0 y t.1 t.2 in
    ap (firsts []) (append_assoc head tests body)
    ∙ firsts_front head 0 [] (tests ++ body) r (λ y j. absurd j)
    ∙ ap (λ l. head ++ l) (firsts_same (tests ++ body) (reverse head) head (λ y. sym (list_any-IsPermutation (eq_by_cmp name_cmp y) head (reverse head) (IsPermutation-reverse head)))
    ∙ firsts_skip tests body head in_head)

pub fresh_numbered : (c : Clause) → Rises 0 (variables_of_list c.head) → AreNumbered (variables_of_clause c) → IsFlat c → (i : ℕ) (x : VarName)
    → slice_get (fresh_variables c) i ≡ Some x → x ≡ asked (length (variables_of_list c.head) + i + 1)
fresh_numbered c r numbered flat i x e =
    let head = variables_of_list c.head in
    numbered (length head + i) x (ap (λ l. slice_get l (length head + i)) (firsts_of_clause c r flat) ∙ behind head (fresh_variables c) i ∙ e)

-- so there are as many as are left of all
pub fresh_left : (c : Clause) (n : ℕ) → Rises 0 (variables_of_list c.head) → IsFlat c → n ≡ length (firsts [] (variables_of_clause c)) → n - length (variables_of_list c.head) ≡ length (fresh_variables c)
fresh_left c n r flat all =
    let parts = ap length (firsts_of_clause c r flat) ∙ length-append (variables_of_list c.head) (fresh_variables c) in
    omega (arith, all, parts)
