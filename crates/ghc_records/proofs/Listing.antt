-- Texts that are written one after another, with a mark between them.
use Rattle.ghc_records.proofs.Words.{◌≡◌, ℕ, List, [], ◌∷◌, ◌++◌, length, map, refl, append_assoc, followed_by, listed}

-- the texts, the first of them after this mark, and each other one after the separator
abbrev pub led : List ℕ → List ℕ → List (List ℕ) → List ℕ
led separator mark [] = []
led separator mark (text ∷ texts) = mark ++ (text ++ followed_by separator texts)

-- where there are texts, they are listed with no mark in front of the first
pub led_all : {X : Type 0} (separator : List ℕ) (text : X → List ℕ) (xs : List X) → (length xs ≡ 0 → ⊥) → led separator [] (map text xs) ≡ listed separator (map text xs)
led_all separator text [] some = absurd (some refl)
led_all separator text (x ∷ xs) some = refl

led_further : (separator : List ℕ) (texts : List (List ℕ)) → led separator separator texts ≡ followed_by separator texts
led_further separator [] = refl
led_further separator (text ∷ texts) = refl

-- the mark and the next text are written
pub led_next : (separator mark text : List ℕ) (texts : List (List ℕ)) (before between behind whole : List ℕ)
    → between ≡ before ++ mark → behind ≡ between ++ text → before ++ led separator mark (text ∷ texts) ≡ whole → behind ++ led separator separator texts ≡ whole
led_next separator mark text texts before between behind whole p q w = simp (q, p, append_assoc, led_further) w
