-- What is found in a list of names, and in a table of them, as they become more.
use Rattle.ghc_reader.proofs.Words.{◌≡◌, ◌≢◌, ◌⊎◌, ℕ, ◌+◌, zero, suc, List, [], ◌∷◌, ◌++◌, length, Bool, true, false, cond, Option, Some, None, refl, sym, ap, ◌∙◌, subst, inl, inr, slice_get, MatchOption, bytes_eq, OnOk, Result, Ok, Err, is_err, HashMap, Updates, bytes_eq-Decides, Names, blank, IsCalled, IsFresh, IsTable}
use Rattle.std.specs.HashMap.{get}

pub get_left : {X : Type 0} (xs ys : List X) (i : ℕ) (x : X) → slice_get xs i ≡ Some x → slice_get (xs ++ ys) i ≡ Some x
get_left [] ys i x e = cc
get_left (y ∷ xs) ys zero x e = e
get_left (y ∷ xs) ys (suc i) x e = get_left xs ys i x e

pub get_last : {X : Type 0} (xs : List X) (y : X) → slice_get (xs ++ y ∷ []) (length xs) ≡ Some y
get_last [] y = refl
get_last (x ∷ xs) y = get_last xs y

pub get_push : {X : Type 0} (xs : List X) (y : X) (i : ℕ) (x : X) → slice_get (xs ++ y ∷ []) i ≡ Some x → (slice_get xs i ≡ Some x) ⊎ ((i ≡ length xs) × (x ≡ y))
get_push [] y zero x e = inr (refl, cc)
get_push [] y (suc i) x e = cc
get_push (z ∷ xs) y zero x e = inl e
get_push (z ∷ xs) y (suc i) x e = elim (get_push xs y i x e) [ inl h ↦ inl h | inr h ↦ inr (ap suc h.0, h.1) ]

-- what the table has of one name
abbrev Row : Names → List ℕ → ℕ → Type 0
Row names v k = (i : ℕ) × (k ≡ i + 1) × (slice_get names i ≡ Some v) × (v ≢ blank)

row_more : (names : Names) (v q : List ℕ) (o : Option ℕ) → v ≢ q → MatchOption o (IsFresh names q) (Row names q) → MatchOption o (IsFresh (names ++ v ∷ []) q) (Row (names ++ v ∷ []) q)
row_more names v q None ne h = λ i e. elim (get_push names v i q e) [ inl old ↦ h i old | inr new ↦ absurd (ne (sym new.1)) ]
row_more names v q (Some k) ne h = (h.0, h.1, get_left names (v ∷ []) h.0 q h.2, h.3)

row_at : (found later : List ℕ → Option ℕ) (names : Names) (v q : List ℕ) (same : Bool) → bytes_eq v q ≡ same → IsTable found names → later q ≡ cond same (Some (length names + 1)) (found q) → v ≢ blank → MatchOption (later q) (IsFresh (names ++ v ∷ []) q) (Row (names ++ v ∷ []) q)
row_at found later names v q true e table is named =
    let key : v ≡ q = (bytes_eq-Decides v q).0 e in
    let row : Row (names ++ v ∷ []) v (length names + 1) = (length names, refl, get_last names v, named) in
    subst (λ o. MatchOption o (IsFresh (names ++ v ∷ []) q) (Row (names ++ v ∷ []) q)) (sym is) (subst (λ w. Row (names ++ v ∷ []) w (length names + 1)) key row)
row_at found later names v q false e table is named =
    let other : v ≢ q = λ key. let yes = (bytes_eq-Decides v q).1 key in cc in
    subst (λ o. MatchOption o (IsFresh (names ++ v ∷ []) q) (Row (names ++ v ∷ []) q)) (sym is) (row_more names v q (found q) other (table q))

-- one name more, that no variable had
pub table_more : (found later : List ℕ → Option ℕ) (names : Names) (v : List ℕ) → IsTable found names → v ≢ blank → ((q : List ℕ) → later q ≡ cond (bytes_eq v q) (Some (length names + 1)) (found q)) → IsTable later (names ++ v ∷ [])
table_more found later names v table named is = λ q. row_at found later names v q (bytes_eq v q) refl table (is q) named

-- what a table has, where an insertion into it succeeded
pub table_inserted : {A E S : Type 0} (r : Result A E) (m n : HashMap (List ℕ) ℕ S) (old names : Names) (key kept v : List ℕ) (place count : ℕ) → is_err r ≡ false → IsTable (get bytes_eq m) old → key ≡ v → kept ≡ v → names ≡ old ++ kept ∷ [] → place ≡ count + 1 → count ≡ length old → v ≢ blank → OnOk r (Updates bytes_eq m n key (Some place)) → IsTable (get bytes_eq n) names
table_inserted (Ok a) m n old names key kept v place count ok table k1 k2 grown number counted named updates =
    let at_count : place ≡ length old + 1 = cc in
    let at_key : (q : List ℕ) → get bytes_eq n q ≡ cond (bytes_eq v q) (Some (length old + 1)) (get bytes_eq m q) =
    λ q. updates.0 q ∙ ap (λ w. cond (bytes_eq w q) (Some place) (get bytes_eq m q)) k1 ∙ ap (λ p. cond (bytes_eq v q) (Some p) (get bytes_eq m q)) at_count in
    let same : names ≡ old ++ v ∷ [] = grown ∙ ap (λ w. old ++ w ∷ []) k2 in
    subst (IsTable (get bytes_eq n)) (sym same) (table_more (get bytes_eq m) (get bytes_eq n) old v table named at_key)
table_inserted (Err e) m n old names key kept v place count ok table k1 k2 grown number counted named updates = cc

-- the variable whose name was added last
pub called_last : (old names : Names) (kept v : List ℕ) (place count : ℕ) → kept ≡ v → names ≡ old ++ kept ∷ [] → place ≡ count + 1 → count ≡ length old → IsCalled names v (record { step = 0; place = place })
called_last old names kept v place count k grown number counted =
    let at_count : place ≡ length old + 1 = cc in
    let same : names ≡ old ++ v ∷ [] = grown ∙ ap (λ w. old ++ w ∷ []) k in
    (length old, ap (λ l. slice_get l (length old)) same ∙ get_last old v, ap (λ p. record { step = 0; place = p }) at_count)
