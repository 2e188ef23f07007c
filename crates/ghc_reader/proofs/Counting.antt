-- Counting variables from the first to the last gives what counting from the last to the first gives.
use Rattle.ghc_reader.proofs.Words.{◌≡◌, ℕ, ◌+◌, ◌<◌, ◌≤◌, Bool, true, false, List, [], ◌∷◌, ◌++◌, length, get_or, take, refl, sym, ap, ◌∙◌, arith, ◌||◌, not, if◌then◌else◌, bytes_eq, list_any, take_more, list_any-append, bytes_eq-Decides, same_from_decides, is_unnamed, variables}
use mir.Val.{bool_byte}

-- so many with one more that counts or does not
abbrev pub and_one : Bool → ℕ → ℕ
and_one b n = if b then n + 1 else n

eq_sym : (x y : List ℕ) → bytes_eq x y ≡ bytes_eq y x
eq_sym x y =
    same_from_decides (bytes_eq x y) (bytes_eq y x) (bytes_eq-Decides x y) (λ e. sym ((bytes_eq-Decides y x).0 e), λ e. (bytes_eq-Decides y x).1 (sym e))

pub one_more : (vs : List (List ℕ)) (x : List ℕ) → variables (vs ++ x ∷ []) ≡ and_one (is_unnamed x || not (list_any (bytes_eq x) vs)) (variables vs)
one_more [] x = refl
one_more (v ∷ vs) x =
    rw (list_any-append (bytes_eq v) vs (x ∷ []), one_more vs x) (by_same (bytes_eq v x) refl)
  where
    by_same : (e : Bool) → bytes_eq v x ≡ e → and_one (is_unnamed v || not (list_any (bytes_eq v) vs || (bytes_eq v x || false))) (and_one (is_unnamed x || not (list_any (bytes_eq x) vs)) (variables vs)) ≡ and_one (is_unnamed x || not (list_any (bytes_eq x) (v ∷ vs))) (variables (v ∷ vs))
    by_same true e = let same : v ≡ x = (bytes_eq-Decides v x).0 e in grind (arith, e, eq_sym v x, ap is_unnamed same, ap (λ y. list_any (bytes_eq y) vs) same)
    by_same false e = grind (arith, e, eq_sym v x)

-- the same at a step of a loop
pub counted_more : (vs : List (List ℕ)) (i : ℕ) (x : List ℕ) → i < length vs → x ≡ get_or vs i x → variables (take (i + 1) vs) ≡ and_one (is_unnamed x || not (list_any (bytes_eq x) (take i vs))) (variables (take i vs))
counted_more vs i x less is =
    ap variables (take_more vs i x less ∙ ap (λ y. take i vs ++ y ∷ []) (sym is)) ∙ one_more (take i vs) x

pub met_more : (vs : List (List ℕ)) (i : ℕ) (x v : List ℕ) → i < length vs → x ≡ get_or vs i x → list_any (bytes_eq v) (take (i + 1) vs) ≡ (list_any (bytes_eq v) (take i vs) || (bytes_eq v x || false))
met_more vs i x v less is =
    ap (list_any (bytes_eq v)) (take_more vs i x less ∙ ap (λ y. take i vs ++ y ∷ []) (sym is)) ∙ list_any-append (bytes_eq v) (take i vs) (x ∷ [])

-- a step of the loop that counts
pub counted_step : (vs : List (List ℕ)) (i : ℕ) (x : List ℕ) (keys : List (List ℕ)) (n : ℕ) (further : Bool) (more : ℕ) → i < length vs → x ≡ get_or vs i x → n ≡ variables (take i vs) → ((v : List ℕ) → is_unnamed v ≡ false → list_any (bytes_eq v) keys ≡ list_any (bytes_eq v) (take i vs)) → further ≡ (is_unnamed x || not (list_any (bytes_eq x) keys)) → more ≡ (if further then 1 else 0) → n + more ≡ variables (take (i + 1) vs)
counted_step vs i x keys n further more less is counted known tells more_is =
    grind (arith, counted_more vs i x less is, known x, tells, more_is, counted)

pub few_step : (n i : ℕ) (further : Bool) (more : ℕ) → n ≤ i → more ≡ (if further then 1 else 0) → n + more ≤ i + 1
few_step n i further more few more_is = grind arith

pub met_step : (vs : List (List ℕ)) (i : ℕ) (x : List ℕ) (keys new : List (List ℕ)) → i < length vs → x ≡ get_or vs i x → ((v : List ℕ) → is_unnamed v ≡ false → list_any (bytes_eq v) keys ≡ list_any (bytes_eq v) (take i vs)) → ((v : List ℕ) → is_unnamed v ≡ false → list_any (bytes_eq v) new ≡ (list_any (bytes_eq v) keys || bytes_eq v x)) → (v : List ℕ) → is_unnamed v ≡ false → list_any (bytes_eq v) new ≡ list_any (bytes_eq v) (take (i + 1) vs)
met_step vs i x keys new less is known met v named =
    grind (arith, met v named, known v named, met_more vs i x v less is)

-- a truth value as a number
pub as_number : (b : Bool) → bool_byte b ≡ (if b then 1 else 0)
as_number b = grind arith
