-- Which place is the first.

use Rattle.ghc_reader.proofs.Words.{◌≡◌, ℕ, ◌<◌, List, [], ◌∷◌, ◌++◌, length, suc, map, take, drop, get_or, Some, false, refl, sym, ap, ◌∙◌, append_assoc, arith, Box, Global, Vec, vec_len, flat_map, ◌==◌, flat_map-append, map-append, take-append-drop, take-suc, SourceTerm, cells, view, views, count, is_variable, first_place}
use Rattle.ghc_reader.specs.declared.source.SourceTerm.TheViews as w
use Rattle.ghc_reader.proofs.Views.{view_list}

first_of : (a b : List ℕ) (n : ℕ) → Some n ≡ first_place a → first_place (a ++ b) ≡ first_place a
first_of a b n e = grind arith

-- the list around one of its elements
around : {A : Type 0} (xs : List A) (i : ℕ) (x : A) → i < length xs → x ≡ get_or xs i x → xs ≡ take i xs ++ x ∷ drop (suc i) xs
around xs i x less is =
    sym (take-append-drop (suc i) xs)
    ∙ ap (λ l. l ++ drop (suc i) xs) (take-suc xs i x less ∙ ap (λ y. take i xs ++ y ∷ []) (sym is))
    ∙ append_assoc (take i xs) (x ∷ []) (drop (suc i) xs)

-- the first place is that of the first part that has one
pub first_mapped : {A B : Type 0} (h : B → List ℕ) (v : A → B) (xs : List A) (i : ℕ) (x : A) (n : ℕ) → i < length xs → x ≡ get_or xs i x → flat_map h (map v (take i xs)) ≡ [] → Some n ≡ first_place (h (v x)) → Some n ≡ first_place (flat_map h (map v xs))
first_mapped h v xs i x n less is none found =
    let others = map v (drop (suc i) xs) in
    let parts : map v xs ≡ map v (take i xs) ++ v x ∷ others = ap (map v) (around xs i x less is) ∙ map-append v (take i xs) (x ∷ drop (suc i) xs) in
    let places : flat_map h (map v xs) ≡ h (v x) ++ flat_map h others =
    ap (flat_map h) parts ∙ flat_map-append h (map v (take i xs)) (v x ∷ others) ∙ ap (λ l. l ++ (h (v x) ++ flat_map h others)) none in
    found ∙ sym (first_of (h (v x)) (flat_map h others) n found) ∙ ap first_place (sym places)

-- as many trees as terms
pub count_views : (ts : List SourceTerm) → count (views ts) ≡ length ts
count_views [] = refl
count_views (t ∷ ts) = omega (arith, count_views ts)

-- a list with elements is no variable
pub list_is_no_variable : (a : Vec SourceTerm Global) (b : Box SourceTerm Global) → false ≡ (vec_len a == 0) → is_variable (view (w.List a b)) ≡ false
list_is_no_variable a b e = ap is_variable (view_list a b) ∙ by_items a.items (e ∙ ap (λ n. n == 0) a.ok.0)
  where
    by_items : (ts : List SourceTerm) → false ≡ (length ts == 0) → is_variable (cells (views ts) (view b.value)) ≡ false
    by_items [] e = cc
    by_items (t ∷ ts) e = refl
